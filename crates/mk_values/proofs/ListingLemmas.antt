-- Lists of keys.
--     taken_first     the first so many of a rising list of all
--     list_by         what is listed over molecules is listed over the same, held in another way
use Rattle.std.proofs.Common.{ℕ, List}
use Rattle.std.specs.Prelude.{◌↔◌}
use Rattle.mk_text.specs.Rising.{IsRisingListOfAll}
use Rattle.mk_model.specs.Keys.{IsKey, Remains}
use Rattle.mk_model.specs.Molecules.{Molecule}
use Rattle.mk_model.specs.Queries.{QueryView}
use Rattle.mk_expansions.proofs.ListingLemmas.{list_same}
pub use Rattle.mk_search.proofs.ForCallers.{taken_first}

-- a key over molecules is one over all that are held so
key_by : (Held Other : ℕ → Molecule → Type 0) (query : QueryView) (key : List ℕ) → ((n : ℕ) (mol : Molecule) → Held n mol → Other n mol) → IsKey Held query key → IsKey Other query key
key_by Held Other query key to k = record { number = k.number; mol = k.mol; numbers = k.numbers; held = to k.number k.mol k.held; occurs = k.occurs; whole = k.whole }

-- what is listed over molecules is listed over the same, held in another way
pub list_by : (Held Other : ℕ → Molecule → Type 0) (query : QueryView) (place : List ℕ) (keys : List (List ℕ)) → ((n : ℕ) (mol : Molecule) → Held n mol ↔ Other n mol)
    → IsRisingListOfAll (Remains Held query place) keys → IsRisingListOfAll (Remains Other query place) keys
list_by Held Other query place keys same all =
    list_same (Remains Held query place) (Remains Other query place) keys
    (λ xs is. (key_by Held Other query xs (λ n mol. (same n mol).0) is.0, is.1)) (λ xs is. (key_by Other Held query xs (λ n mol. (same n mol).1) is.0, is.1)) all
