-- For the tests: bytes above the blank make a symbol, and what is asked of properties.
use Rattle.std.proofs.Common.{◌≡◌, ℕ, ◌+◌, ◌-◌, ◌<◌, ◌≤◌, Bool, true, false, ltb, All, List, [], ◌∷◌, length, get_or, take, refl, sym, ap, ◌∙◌, subst, arith}
use Rattle.std.specs.Prelude.{Contains}
use Rattle.std.specs.List.{list_all}
use Rattle.std.proofs.lemmas.Bool.{ltb-true}
use Rattle.std.proofs.lemmas.Bool.Decides.{nat_tests}
use Rattle.std.proofs.lemmas.List.{take_all, append-nil, length-append, get_or_at, get_or_default}
use Rattle.std.proofs.lemmas.List.Elements.{All-more}
use Rattle.mk_text.specs.Columns.{is_space, trimmed}
use Rattle.mk_text.proofs.ForCallers.{trimmed_between, trimmed_blank, list_all_at}
use Rattle.mk_props.specs.declared.property.Property.{Property}
use Rattle.mk_tables.specs.Table.{IsKept}
use Rattle.mk_text.specs.Lines.{EndsWith}
use Rattle.mk_spelling.specs.TableSpelling.{IsSymbol, PropertyFits, SymbolsFit, SymbolsEnd, RangeFits}

-- a byte above the blank
abbrev is_above : ℕ → Bool
is_above c = ltb 32 c

-- a byte above the blank is none
no_space : (c : ℕ) → is_above c ≡ true → is_space c ≡ false
no_space c above = grind (arith, nat_tests)

-- each byte above the blank is from the blank on
from_above : (text : List ℕ) → list_all is_above text ≡ true → (k : ℕ) → k < length text → 33 ≤ get_or text k 0
from_above text above k within = let each : 32 < get_or text k 0 = ltb-true 32 (get_or text k 0) (list_all_at is_above text k above within) in omega arith

-- nothing is left out of such a text
trimmed_above : (text : List ℕ) → list_all is_above text ≡ true → trimmed text ≡ text
trimmed_above [] above = trimmed_blank [] refl
trimmed_above (c ∷ cs) above =
    let text : List ℕ = c ∷ cs in
    ap trimmed (sym (append-nil text))
    ∙ trimmed_between [] text [] refl refl (omega arith) (no_space (get_or text 0 0) (list_all_at is_above text 0 above (omega arith)))
    (no_space (get_or text (length text - 1) 0) (list_all_at is_above text (length text - 1) above (omega arith)))

-- no byte below 32 is in a text of bytes from 32 on
pub holds_none : (text : List ℕ) (low c : ℕ) → ((k : ℕ) → k < length text → low ≤ get_or text k 0) → c < low → Contains text c → ⊥
holds_none text low c from below there =
    let same : get_or text there.0 0 ≡ get_or text there.0 c = get_or_default text there.0 0 c there.1 in
    absurd (omega (arith, from there.0 there.1, same, there.2))

-- nor at its end
pub ends_none : (text : List ℕ) (low c : ℕ) → ((k : ℕ) → k < length text → low ≤ get_or text k 0) → c < low → EndsWith c text → ⊥
ends_none text low c from below ends =
    let size : length text ≡ length ends.0 + 1 = omega (arith, ap length ends.1, length-append ends.0 (c ∷ [])) in
    let last : get_or text (length ends.0) 0 ≡ c = ap (λ (xs : List ℕ). get_or xs (length ends.0) 0) ends.1 ∙ get_or_at ends.0 c [] 0 (length ends.0) refl in
    absurd (omega (arith, from (length ends.0) (omega arith), last))

-- such a text that is short enough is a symbol
pub is_symbol : (width : ℕ) (text : List ℕ) → length text ≤ width → list_all is_above text ≡ true → IsSymbol width text
is_symbol width text short above =
    record { no_blanks = trimmed_above text above; no_lf = holds_none text 33 10 (from_above text above) (omega arith); fits = short }

-- that doesn't end with CR
pub no_cr : (text : List ℕ) → list_all is_above text ≡ true → EndsWith 13 text → ⊥
no_cr text above = ends_none text 33 13 (from_above text above) (omega arith)

-- ---- loops

-- what holds of so many of a list, where there are no more, holds of all
pub all_taken : {X : Type 0} (P : X → Type 0) (xs : List X) (n : ℕ) → length xs ≤ n → All P (take n xs) → All P xs
all_taken P xs n few all = subst (λ ys. All P ys) (take_all n xs few) all

-- one more
pub one_more : {X : Type 0} (P : X → Type 0) (xs : List X) (i : ℕ) (x : X) → All P (take i xs) → i < length xs → x ≡ get_or xs i x → P x → All P (take (i + 1) xs)
one_more P xs i x all within same is = All-more P xs i x within all (subst P same is)

-- ---- properties

-- what is asked of each property
pub record AllFit (properties : List Property) : Type 0 where
  pub kept : All IsKept properties
  pub fit : All PropertyFits properties
  pub symbols : All SymbolsFit properties
  pub symbols_end : All SymbolsEnd properties
  pub ranges : All RangeFits properties
