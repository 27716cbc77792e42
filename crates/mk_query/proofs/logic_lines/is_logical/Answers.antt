use Rattle.mk_query.proofs.logic_lines.is_logical.Goals as goal

pub returns-in-Logic : goal.returns-in-Logic
returns-in-Logic c = rw c.in-Logic.is (rw c.is_last.ensures at c.is_right_logic.ensures)
