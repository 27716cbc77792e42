-- The symbols of elements.
--     symbol_is                   what `symbol_of` gives is the element's symbol
--     is_plain                    one or two bytes above the blank, which are no word of a query
--     names_itself                it names its element
use Rattle.std.proofs.Common.{◌≡◌, ◌<◌, ◌≤◌, ◌-◌, ℕ, zero, suc, Bool, true, false, not, ◌&&◌, leb, ltb, List, [], ◌∷◌, length, get_or, refl, sym, arith, inl}
use Rattle.std.specs.Prelude.{codes, bytes_eq}
use Rattle.std.specs.List.{list_all}
use Rattle.std.proofs.lemmas.Bool.{leb-true}
use Rattle.std.proofs.lemmas.Slice.Eq.{bytes_eq-Decides}
use Rattle.mk_elements.specs.Symbols.{symbols, IsSymbol, NamesElement}
use Rattle.mk_text.proofs.ForCallers.{both, not_true}
use Rattle.mk_model.specs.Molecules.{IsElement}
use Rattle.mk_model.proofs.ForCallers.{at_place, place_is}
use Rattle.mk_enum.specs.StructureTables.{element_symbol}

many : length symbols ≡ 118
unfolding symbols
many = refl

-- the symbol of an element is that of the table
pub symbol_is : (symbol : List ℕ) (z : ℕ) → IsSymbol symbol z → symbol ≡ element_symbol z
unfolding element_symbol
symbol_is symbol z is = sym (place_is symbols (z - 1) symbol [] is.1)

-- ---- what is computed of all of them

-- a byte above the blank
abbrev pub is_above : ℕ → Bool
is_above c = ltb 32 c

-- the test of one symbol
abbrev passes : List ℕ → Bool
passes s = leb (length s) 2 && (list_all is_above s && (not (bytes_eq s (codes "L")) && not (bytes_eq s (codes "R#"))))

all_pass : list_all passes symbols ≡ true
unfolding symbols
all_pass = refl

-- what holds of all holds at a place
at_each : {X : Type 0} (p : X → Bool) (xs : List X) (k : ℕ) (d : X) → list_all p xs ≡ true → k < length xs → p (get_or xs k d) ≡ true
at_each p [] k d all below = absurd (omega arith)
at_each p (x ∷ xs) zero d all below = (both (p x) (list_all p xs) all).0
at_each p (x ∷ xs) (suc k) d all below = at_each p xs k d (both (p x) (list_all p xs) all).1 (omega arith)

-- one or two bytes above the blank, which are neither the word for a list nor that for a site
pub record IsPlain (symbol : List ℕ) : Type 0 where
  pub short : length symbol ≤ 2
  pub above : list_all is_above symbol ≡ true
  pub no_list : symbol ≡ codes "L" → ⊥
  pub no_site : bytes_eq symbol (codes "R#") ≡ false

in_parts : (s : List ℕ) → passes s ≡ true → IsPlain s
in_parts s h =
    let first = both (leb (length s) 2) (list_all is_above s && (not (bytes_eq s (codes "L")) && not (bytes_eq s (codes "R#")))) h in
    let second = both (list_all is_above s) (not (bytes_eq s (codes "L")) && not (bytes_eq s (codes "R#"))) first.1 in
    let third = both (not (bytes_eq s (codes "L"))) (not (bytes_eq s (codes "R#"))) second.1 in
    let no : bytes_eq s (codes "L") ≡ false = not_true (bytes_eq s (codes "L")) third.0 in
    record {
      short = leb-true (length s) 2 first.0;
      above = second.0;
      no_list = λ same. (let yes : bytes_eq s (codes "L") ≡ true = (bytes_eq-Decides s (codes "L")).1 same in absurd (cc (no, yes)));
      no_site = not_true (bytes_eq s (codes "R#")) third.1;
    }

-- the symbol of an element is such
pub is_plain : (z : ℕ) → IsElement z → IsPlain (element_symbol z)
unfolding element_symbol
is_plain z is = in_parts (get_or symbols (z - 1) []) (at_each passes symbols (z - 1) [] all_pass (omega (arith, many, is.0, is.1)))

-- and names the element
pub names_itself : (z : ℕ) → IsElement z → NamesElement (element_symbol z) z
unfolding element_symbol
names_itself z is = inl (is.0, at_place symbols (z - 1) [] (omega (arith, many, is.0, is.1)))
