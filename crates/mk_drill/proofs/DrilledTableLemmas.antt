-- What each drilled table keeps.
--     IsFit table                  atoms and bonds that a molecule may have, as many of them, and nothing else
--     drilled_is_fit                 each drilled table is so, and has at most 18 atoms
use Rattle.std.proofs.Common.{[], ◌∷◌, ◌++◌, ◌≡◌, ℕ, zero, suc, ◌+◌, ◌*◌, ◌≤◌, Bool, true, false, cond, eqb, List, length, arith, refl, sym, ap, ◌∙◌, subst, inl, lit≤}
use Rattle.std.specs.Prelude.{All, Contains, codes, pos}
use Rattle.std.specs.List.{AllByRecursion}
use Rattle.std.proofs.lemmas.Bool.{true≢false}
use Rattle.std.proofs.lemmas.Int.{ints}
use Rattle.std.proofs.lemmas.List.{length-append}
use Rattle.std.proofs.lemmas.List.Elements.{All-from_recursion, All-push, All-replicate}
use Rattle.mk_elements.specs.Symbols.{symbols}
use Rattle.mk_tables.specs.declared.raw.RawAtom.{RawAtom}
use Rattle.mk_tables.specs.declared.raw.RawBond.{RawBond}
use Rattle.mk_tables.specs.declared.raw.RawTable.{RawTable}
use Rattle.mk_spelling.specs.TableSpelling.{AtomFits, FitsThree, IsSymbol}
use Rattle.mk_mol.specs.Checks.{HasKnownType, IsKnownAtom, IsElementSymbol}
use Rattle.mk_drill.specs.Draws.{benzene, drilled_table, draws, plain_atom, plain_bond, substituted, substituted_from, with_atom, with_methoxy}
use Rattle.mk_drill.proofs.BondLemmas.{AreNew, new_behind, ring_is_new}

-- a molecule may have such an atom, and it can be written
pub record IsFitAtom (atom : RawAtom) : Type 0 where
  pub known : IsKnownAtom atom
  pub symbol : IsSymbol 3 atom.symbol
  pub columns : AtomFits atom

-- so can the type and the topology of such a bond
pub record IsFitBond (bond : RawBond) : Type 0 where
  pub known : HasKnownType bond
  pub kind : FitsThree bond.kind
  pub topology : FitsThree bond.topology

-- atoms and bonds that a molecule may have, as many of them, and nothing else
pub record IsFit (table : RawTable) : Type 0 where
  pub atoms : All IsFitAtom table.atoms
  pub bonds : All IsFitBond table.bonds
  pub new : AreNew (length table.atoms) [] table.bonds
  pub as_many : length table.bonds ≡ length table.atoms
  pub no_lists : table.lists ≡ []
  pub no_properties : table.props ≡ []

-- ---- atoms and bonds

zero_fits : FitsThree (pos 0)
zero_fits = record { from = omega (arith, ints); to = omega (arith, ints) }

fit_atom : (symbol : List ℕ) → IsElementSymbol symbol → IsSymbol 3 symbol → IsFitAtom (plain_atom symbol)
fit_atom symbol named is = record {
  known = record {
    symbol = named;
    charge = record { least = omega (arith, ints); most = omega (arith, ints) };
    valence = record { least = omega (arith, ints); most = omega (arith, ints) };
  };
  symbol = is;
  columns = record { charge = zero_fits; hydrogens = zero_fits; valence = zero_fits };
}

fit_bond : (x y kind : ℕ) → 1 ≤ kind → kind ≤ 4 → IsFitBond (plain_bond x y kind)
fit_bond x y kind least most = record {
  known = record { least = omega (arith, ints); most = omega (arith, ints) };
  kind = record { from = omega (arith, ints); to = omega (arith, ints) };
  topology = zero_fits;
}

-- bytes that are no LF
none_held : (symbol : List ℕ) → AllByRecursion (λ c. eqb c 10 ≡ false) symbol → Contains symbol 10 → ⊥
none_held [] none is = absurd (omega (arith, is.1))
none_held (c ∷ symbol) none (zero, within, same) = let test : eqb c 10 ≡ true = ap (λ (n : ℕ). eqb n 10) same in true≢false (sym test ∙ none.0)
none_held (c ∷ symbol) none (suc k, within, same) = none_held symbol none.1 (k, omega arith, same)

carbon : IsFitAtom (plain_atom (codes "C"))
unfolding symbols
carbon = fit_atom (codes "C") (record { element = 6; names = inl (lit≤ tt, refl) })
    (record { no_blanks = refl; no_lf = none_held (codes "C") (refl, tt); fits = lit≤ tt })

oxygen : IsFitAtom (plain_atom (codes "O"))
unfolding symbols
oxygen = fit_atom (codes "O") (record { element = 8; names = inl (lit≤ tt, refl) })
    (record { no_blanks = refl; no_lf = none_held (codes "O") (refl, tt); fits = lit≤ tt })

chlorine : IsFitAtom (plain_atom (codes "Cl"))
unfolding symbols
chlorine = fit_atom (codes "Cl") (record { element = 17; names = inl (lit≤ tt, refl) })
    (record { no_blanks = refl; no_lf = none_held (codes "Cl") (refl, (refl, tt)); fits = lit≤ tt })

bromine : IsFitAtom (plain_atom (codes "Br"))
unfolding symbols
bromine = fit_atom (codes "Br") (record { element = 35; names = inl (lit≤ tt, refl) })
    (record { no_blanks = refl; no_lf = none_held (codes "Br") (refl, (refl, tt)); fits = lit≤ tt })

-- ---- benzene

benzene_is_fit : IsFit benzene
unfolding benzene
benzene_is_fit = record {
  atoms = All-replicate IsFitAtom 6 (plain_atom (codes "C")) carbon;
  bonds = All-from_recursion IsFitBond benzene.bonds (
    fit_bond 1 2 2 (lit≤ tt) (lit≤ tt),
    (
      fit_bond 2 3 1 (lit≤ tt) (lit≤ tt),
      (
        fit_bond 3 4 2 (lit≤ tt) (lit≤ tt),
        (fit_bond 4 5 1 (lit≤ tt) (lit≤ tt), (fit_bond 5 6 2 (lit≤ tt) (lit≤ tt), (fit_bond 1 6 1 (lit≤ tt) (lit≤ tt), tt))),
      ),
    ),
  );
  new = ring_is_new;
  as_many = refl;
  no_lists = refl;
  no_properties = refl;
}

-- ---- one draw more

-- one atom more, bonded to one of them
atom_more : (symbol : List ℕ) (x : ℕ) (table : RawTable) → IsFitAtom (plain_atom symbol) → 1 ≤ x → x ≤ length table.atoms → IsFit table → IsFit (with_atom symbol x table)
unfolding with_atom
atom_more symbol x table atom least most fit =
    let more : length (table.atoms ++ plain_atom symbol ∷ []) ≡ length table.atoms + 1 = length-append table.atoms (plain_atom symbol ∷ []) in
    let bond = plain_bond x (length table.atoms + 1) 1 in
    record {
      atoms = All-push IsFitAtom table.atoms (plain_atom symbol) fit.atoms atom;
      bonds = All-push IsFitBond table.bonds bond fit.bonds (fit_bond x (length table.atoms + 1) 1 (lit≤ tt) (lit≤ tt));
      new = subst (λ (n : ℕ). AreNew n [] (table.bonds ++ bond ∷ [])) (sym more) (new_behind (length table.atoms) x 1 table.bonds least most fit.new);
      as_many = omega (arith, length-append table.bonds (bond ∷ []), more, fit.as_many);
      no_lists = fit.no_lists;
      no_properties = fit.no_properties;
    }

count_more : (symbol : List ℕ) (x : ℕ) (table : RawTable) → length (with_atom symbol x table).atoms ≡ length table.atoms + 1
unfolding with_atom
count_more symbol x table = length-append table.atoms (plain_atom symbol ∷ [])

-- a table that is fit, and has at least so many atoms and at most so many
pub record IsFitWithin (least most : ℕ) (table : RawTable) : Type 0 where
  pub fit : IsFit table
  pub some : least ≤ length table.atoms
  pub few : length table.atoms ≤ most

within_more : (symbol : List ℕ) (x least most : ℕ) (table : RawTable) → IsFitAtom (plain_atom symbol) → 1 ≤ x
    → x ≤ least → IsFitWithin least most table → IsFitWithin least (most + 1) (with_atom symbol x table)
within_more symbol x least most table atom first last is =
    let more = count_more symbol x table in
    record {
      fit = atom_more symbol x table atom first (omega (arith, is.some)) is.fit;
      some = omega (arith, more, is.some);
      few = omega (arith, more, is.few);
    }

within_less : (least most n : ℕ) (table : RawTable) → most ≤ n → IsFitWithin least most table → IsFitWithin least n table
within_less least most n table fewer is = record { fit = is.fit; some = is.some; few = omega (arith, is.few) }

methoxy_within : (x least most : ℕ) (table : RawTable) → 1 ≤ x → x ≤ least → IsFitWithin least most table → IsFitWithin least (most + 2) (with_methoxy x table)
methoxy_within x least most table first last is =
    let o = within_more (codes "O") x least most table oxygen first last is in
    let more = count_more (codes "O") x table in
    let c = atom_more (codes "C") (length table.atoms + 1) (with_atom (codes "O") x table) carbon (omega arith) (omega (arith, more)) o.fit in
    let two = count_more (codes "C") (length table.atoms + 1) (with_atom (codes "O") x table) in
    record { fit = c; some = omega (arith, two, more, is.some); few = omega (arith, two, more, is.few) }

-- what any draw puts on an atom
by_tests : (a b c : Bool) (P : RawTable → Type 0) (first second third fourth : RawTable) → P first → P second → P third → P fourth
    → P (cond a first (cond b second (cond c third fourth)))
by_tests true b c P first second third fourth p q r s = p
by_tests false true c P first second third fourth p q r s = q
by_tests false false true P first second third fourth p q r s = r
by_tests false false false P first second third fourth p q r s = s

substituted_within : (x draw least most : ℕ) (table : RawTable) → 1 ≤ x → x ≤ least → IsFitWithin least most table → IsFitWithin least (most + 2) (substituted x draw table)
substituted_within x draw least most table first last is =
    by_tests (eqb draw 0) (eqb draw 1) (eqb draw 2) (IsFitWithin least (most + 2)) _ _ _ _
    (within_less least (most + 1) (most + 2) _ (omega arith) (within_more (codes "Cl") x least most table chlorine first last is))
    (within_less least (most + 1) (most + 2) _ (omega arith) (within_more (codes "Br") x least most table bromine first last is))
    (methoxy_within x least most table first last is)
    (within_less least most (most + 2) table (omega arith) is)

-- it puts at most two atoms there
pub substituted_few : (x draw : ℕ) (table : RawTable) → length (substituted x draw table).atoms ≤ length table.atoms + 2
substituted_few x draw table =
    let chlorine = count_more (codes "Cl") x table in
    let bromine = count_more (codes "Br") x table in
    let oxygen = count_more (codes "O") x table in
    let carbon = count_more (codes "C") (length table.atoms + 1) (with_atom (codes "O") x table) in
    by_tests (eqb draw 0) (eqb draw 1) (eqb draw 2) (λ t. length t.atoms ≤ length table.atoms + 2) _ _ _ _
    (omega (arith, chlorine)) (omega (arith, bromine)) (omega (arith, carbon, oxygen)) (omega arith)

-- ---- all draws

drilled_within : (ds : List ℕ) (x least most : ℕ) (table : RawTable) → 1 ≤ x → x + length ds ≤ least + 1
    → IsFitWithin least most table → IsFitWithin least (most + 2 * length ds) (substituted_from x ds table)
drilled_within [] x least most table first last is = within_less least most (most + 2 * 0) table (omega arith) is
drilled_within (draw ∷ ds) x least most table first last is =
    within_less least ((most + 2) + 2 * length ds) (most + 2 * suc (length ds)) _ (omega arith)
    (drilled_within ds (x + 1) least (most + 2) (substituted x draw table) (omega arith) (omega arith)
    (substituted_within x draw least most table first (omega arith) is))

-- each drilled table is fit, and has 6 to 18 atoms
pub drilled_is_fit : (state : ℕ) → IsFitWithin 6 18 (drilled_table state)
unfolding drilled_table benzene
drilled_is_fit state = drilled_within (draws 6 state) 1 6 6 benzene (lit≤ tt) (lit≤ tt) (record { fit = benzene_is_fit; some = lit≤ tt; few = lit≤ tt })
