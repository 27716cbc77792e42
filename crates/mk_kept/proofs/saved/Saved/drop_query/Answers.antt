use Rattle.std.proofs.Common.{◌≡◌, false, length, sym, ap, subst, arith}
use Rattle.mk_kept.specs.Saved.{SavedView, is_waiting}
use Rattle.mk_kept.proofs.SavedLemmas.{bytes_out, out_kept, out_tables}
use Rattle.mk_kept.proofs.saved.Saved.drop_query.Goals as goal

pub overflow_sub-self : goal.overflow_sub-self
overflow_sub-self c =
    let all = bytes_out c.args.name.now c.self.inside.queries.entries c.in-Some.kept (sym c.in-Some.ensures.value) in
    omega (arith, all, c.self.invariant.counted, ap length c.as_slice.ensures)

pub invariant_of-self : goal.invariant_of-self
invariant_of-self c = rw c.in_default.ensures.unchanged c.self.invariant

pub invariant_of-self-2 : goal.invariant_of-self-2
invariant_of-self-2 c =
    let none = subst (λ (v : SavedView). is_waiting c.args.name.now v.cursors ≡ false) (sym c.self.view_is) c.requires in
    rw (c.shift_remove.ensures.entries, c.as_slice.ensures)
    (out_kept c.args.name.now c.self.inside.queries.entries c.self.inside.bytes c.self.inside.next_cursor c.self.inside.cursors.rows c.in-Some.kept c.self.invariant (sym c.in-Some.ensures.value) none)

pub returns-clause-tables : goal.returns-clause-tables
returns-clause-tables c =
    rw (← c.self.view_is, c.shift_remove.ensures.entries) (out_tables c.args.name.now c.self.inside.queries.entries c.self.inside.next_cursor _ c.self.invariant.distinct)

pub returns-in_default-clause-tables : goal.returns-in_default-clause-tables
returns-in_default-clause-tables c =
    rw (← c.self.view_is, c.shift_remove.ensures.entries) (out_tables c.args.name.now c.self.inside.queries.entries c.self.inside.next_cursor _ c.self.invariant.distinct)
