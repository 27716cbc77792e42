-- The one molecule that `match` searches, which is record 1.
--     first_of_record1    the first keys on its shelf are the first in the molecule
--     pair_of, begins_over    pairs, and how often is begun over what is held, over what else is held so as well
use Rattle.std.proofs.Common.{◌≡◌, ℕ, Bool, true, false, nat_eq, if◌then◌else◌, List, [], ◌∷◌, None, Some, refl, sym, ap, subst}
use Rattle.std.proofs.lemmas.Bool.{eqb-true}
use Rattle.mk_text.specs.Rising.{AreFirst, IsBelow}
use Rattle.mk_text.proofs.ForCallers.{each_from}
use Rattle.mk_rows.specs.declared.by_number.Numbered.{Numbered}
use Rattle.mk_model.specs.Keys.{IsKey, Remains}
use Rattle.mk_model.specs.Molecules.{Molecule}
use Rattle.mk_model.specs.Queries.{QueryView}
use Rattle.mk_search.specs.declared.pages.Page.{Page}
use Rattle.mk_search.specs.Begins.{BeginsOfPage, IsPairFrom}
use Rattle.mk_search.specs.Pages.{IsHeldIn}
use Rattle.mk_effects.specs.Match.{IsRecord1}

-- the rows that hold the molecule alone
abbrev pub only_row : Molecule → List (Numbered Molecule)
only_row mol = record { number = 1; item = mol } ∷ []

-- what is held there is record 1
held_is : (mol : Molecule) (n : ℕ) (other : Molecule) → IsHeldIn (only_row mol) n other → IsRecord1 mol n other
held_is mol n other is = by_test (nat_eq 1 n) refl is
  where
    by_test : (here : Bool) → nat_eq 1 n ≡ here → (if here then Some mol else None) ≡ Some other → IsRecord1 mol n other
    by_test true same is = (sym (eqb-true 1 n same), cc)
    by_test false same is = (let never : None ≡ Some other = is in absurd cc)

-- and record 1 is held there
pub is_held : (mol : Molecule) (n : ℕ) (other : Molecule) → IsRecord1 mol n other → IsHeldIn (only_row mol) n other
is_held mol n other is = subst (λ (k : ℕ). IsHeldIn (only_row mol) k other) (sym is.0) (ap Some (sym is.1))

-- keys of what is held are keys of what is held so as well
pub key_of : (Held Other : ℕ → Molecule → Type 0) (query : QueryView) (key : List ℕ) → ((n : ℕ) (mol : Molecule) → Held n mol → Other n mol) → IsKey Held query key → IsKey Other query key
key_of Held Other query key same is = record {
  number = is.number;
  mol = is.mol;
  numbers = is.numbers;
  held = same is.number is.mol is.held;
  occurs = is.occurs;
  whole = is.whole;
}

-- pairs of what is held are pairs of what is held so as well
pub pair_of : (Held Other : ℕ → Molecule → Type 0) (query : QueryView) (place : List ℕ) → ((n : ℕ) (mol : Molecule) → Held n mol → Other n mol) → (xs : List ℕ)
    → IsPairFrom Held query place xs → IsPairFrom Other query place xs
pair_of Held Other query place same xs is = record {
  number = is.number;
  mol = is.mol;
  screen = is.screen;
  code = is.code;
  held = same is.number is.mol is.held;
  shows = is.shows;
  covered = is.covered;
  left = is.left;
  whole = is.whole;
}

-- so as often is begun
pub begins_over : (Held Other : ℕ → Molecule → Type 0) (query : QueryView) (place : List ℕ) (page : Page) (old new : ℕ) → ((n : ℕ) (mol : Molecule) → Held n mol → Other n mol)
    → BeginsOfPage Held query place page old new → BeginsOfPage Other query place page old new
begins_over Held Other query place page old new same begins = record {
  pairs = begins.pairs;
  rises = begins.rises;
  each = each_from (IsPairFrom Held query place) (IsPairFrom Other query place) begins.pairs (pair_of Held Other query place same) begins.each;
  ticks = begins.ticks;
  up_to = begins.up_to;
  fronts = begins.fronts;
}

-- nothing is below the empty place
none_below : (xs : List ℕ) → IsBelow xs [] → ⊥
none_below xs below = below

first_there : (mol : Molecule) (query : QueryView) (most : ℕ) (keys : List (List ℕ)) → AreFirst most (Remains (IsHeldIn (only_row mol)) query []) keys
    → AreFirst most (IsKey (IsRecord1 mol) query) keys
first_there mol query most keys first = record {
  rises = first.rises;
  each = λ key is. key_of (IsHeldIn (only_row mol)) (IsRecord1 mol) query key (held_is mol) (first.each key is).0;
  few = first.few;
  others = λ key is. first.others key (key_of (IsRecord1 mol) (IsHeldIn (only_row mol)) query key (is_held mol) is, none_below key);
}

-- on a shelf of that row
pub first_of_record1 : (mol : Molecule) (query : QueryView) (most : ℕ) (rows : List (Numbered Molecule))
    (keys : List (List ℕ)) → rows ≡ only_row mol → AreFirst most (Remains (IsHeldIn rows) query []) keys
    → AreFirst most (IsKey (IsRecord1 mol) query) keys
first_of_record1 mol query most rows keys same first =
    first_there mol query most keys (subst (λ (rs : List (Numbered Molecule)). AreFirst most (Remains (IsHeldIn rs) query []) keys) same first)
