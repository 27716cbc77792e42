use Rattle.std.proofs.Common.{◌≡◌, ◌∙◌, sym, arith, subst}
use Rattle.mk_tables.specs.declared.raw.RawAtom.{RawAtom}
use Rattle.mk_mol.specs.Checks.{IsKnownAtom}
use Rattle.mk_mol.specs.FirstFault.{known_atoms}
use Rattle.mk_text.proofs.ForCallers.{all_of}
use Rattle.mk_demands.proofs.ForCallers.{numbers-within}
use Rattle.mk_mol.proofs.GainLemmas.{known_kinds, numbers_of, near_size, few_numbers, gained_is}
use Rattle.mk_mol.proofs.hydrogen_filling.gained_at.Goals as goal

pub mark_of-mark-requires : goal.mark_of-mark-requires
mark_of-mark-requires c =
    let is : c.index-as_slice-i.result ≡ _ = rw c.as_slice.ensures at c.index-as_slice-i.is in
    let P : RawAtom → Type 0 = IsKnownAtom in
    subst P (sym is) (all_of IsKnownAtom c.args.table.now.atoms (c.requires.passes known_atoms) c.args.i c.index-as_slice-i.result c.requires.within)

pub at-numbers-requires-clause-most : goal.at-numbers-requires-clause-most
at-numbers-requires-clause-most c = omega (arith, near_size c.args.table.now c.args.drawn.now c.requires.drawn, c.requires.within)

pub gained-requires-clause-few : goal.gained-requires-clause-few
gained-requires-clause-few c =
    few_numbers c.args.table.now c.args.i _ c.requires.passes c.requires.within
    (numbers_of c.args.table.now c.args.drawn.now c.args.i _ c.requires.drawn c.requires.within c.at-numbers.ensures)

pub gained-requires-clause-kinds : goal.gained-requires-clause-kinds
gained-requires-clause-kinds c = known_kinds c.args.table.now _ (c.as_slice-2.ensures.value ∙ c.requires.drawn.edges) c.requires.passes

pub gained-requires-clause-within : goal.gained-requires-clause-within
gained-requires-clause-within c =
    rw (c.as_slice-2.ensures.value, c.requires.drawn.edges)
    (numbers-within _ _ _ (numbers_of c.args.table.now c.args.drawn.now c.args.i _ c.requires.drawn c.requires.within c.at-numbers.ensures))

pub returns : goal.returns
returns c = λ line at.
    gained_is c.args.table.now c.args.i _ _ c.index-as_slice-i.result line c.args.atom _ _ (rw c.as_slice.ensures at c.index-as_slice-i.is) c.requires.within c.mark_of-mark.ensures.mark
    (c.as_slice-2.ensures.value ∙ c.requires.drawn.edges)
    (numbers_of c.args.table.now c.args.drawn.now c.args.i _ c.requires.drawn c.requires.within c.at-numbers.ensures)
    c.gained.ensures at
