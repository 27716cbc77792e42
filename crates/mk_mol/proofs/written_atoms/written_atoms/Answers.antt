use Rattle.std.proofs.Common.{◌≡◌, ◌<◌, ap, length, get_or, refl, subst, sym, arith, List, ℕ}
use Rattle.std.proofs.lemmas.List.Elements.{All-push}
use Rattle.std.proofs.lemmas.Option.{slice_get_read}
use Rattle.mk_elements.specs.Symbols.{NamesElement}
use Rattle.mk_tables.specs.declared.raw.RawAtom.{RawAtom}
use Rattle.mk_demands.specs.Values.{HasKnownValues, NamesAtoms}
use Rattle.mk_text.proofs.ForCallers.{all_of}
use Rattle.mk_mol.specs.Checks.{IsKnownAtom, IsElementSymbol}
use Rattle.mk_mol.specs.FirstFault.{known_atoms, known_values, named_atoms}
use Rattle.mk_mol.specs.Putting.{IsSound}
use Rattle.mk_mol.proofs.WrittenAtomsLemmas.{written-one, written-more, written-all}
use Rattle.mk_mol.proofs.written_atoms.written_atoms.Goals as goal

pub charges_and_radicals-requires-clause-for_atoms : goal.charges_and_radicals-requires-clause-for_atoms
charges_and_radicals-requires-clause-for_atoms c = all_of (NamesAtoms (length c.args.table.now.atoms)) c.args.table.now.props (c.requires named_atoms)

pub charges_and_radicals-requires-clause-values : goal.charges_and_radicals-requires-clause-values
charges_and_radicals-requires-clause-values c = all_of HasKnownValues c.args.table.now.props (c.requires known_values)

pub atom_of-requires-clause-named : goal.atom_of-requires-clause-named
atom_of-requires-clause-named c =
    let below : c.loop-i.i < length c.args.table.now.atoms = rw c.as_slice-lines.ensures at c.loop-i-test.true in
    rw (c.as_slice.ensures, c.as_slice-lines.ensures) (all_of IsKnownAtom c.args.table.now.atoms (c.requires known_atoms) c.loop-i.i c.index-lines-i.result below).symbol

pub loop-i-preserved : goal.loop-i-preserved
loop-i-preserved c =
    let table = c.args.table.now in
    let seen = c.index-lines-i.result in
    let is : seen ≡ get_or table.atoms c.loop-i.i seen = rw c.as_slice-lines.ensures at c.index-lines-i.is in
    let below : c.loop-i.i < length table.atoms = rw c.as_slice-lines.ensures at c.loop-i-test.true in
    let there = slice_get_read table.atoms (length table.atoms) c.loop-i.i seen refl below is in
    let within : c.loop-i.i < length c.in_ok-list.list.items = omega (arith, c.in_ok-list.ensures.are.size) in
    let named : NamesElement (get_or table.atoms c.loop-i.i seen).symbol c.atom_of.result.element = rw (c.as_slice.ensures, c.as_slice-lines.ensures) at c.atom_of.ensures.element in
    let P : RawAtom → Type 0 = λ line. NamesElement line.symbol c.atom_of.result.element in
    let element : NamesElement seen.symbol c.atom_of.result.element = subst P (sym is) named in
    let made = written-one table c.in_ok-list.list.items c.loop-i.i seen c.index.result.now c.index.result.now
    c.atom_of.result c.in_ok-list.ensures.are there c.index.ensures within element c.atom_of.ensures.charge
    c.atom_of.ensures.radical in
    rw c.in_ok-push.ensures.items (
      written-more table c.loop-i.i seen c.loop-i.atoms.items c.atom_of.result is made c.loop-i.invariant.0,
      All-push IsSound c.loop-i.atoms.items c.atom_of.result c.loop-i.invariant.1 c.atom_of.ensures.sound,
    )

pub returns-clause-written : goal.returns-clause-written
returns-clause-written c =
    let all : length c.args.table.now.atoms ≡ c.loop-i.i = omega (arith, ap length c.as_slice-lines.ensures) in
    written-all c.args.table.now c.loop-i.i c.loop-i.atoms.items all c.loop-i.invariant.0
