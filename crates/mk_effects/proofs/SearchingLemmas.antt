-- What `search` and `resume` come to.
--     first_over_records, parts_over_records     the first keys over the molecules of a library, as those over its records
--     begins_over_records     how often is begun over the molecules of a library, over its records
--     put_fits, none_put      the change that saves a search fits, and the one that drops a search saves none
--     refused_if                                 what is said of a refusal
use Rattle.std.proofs.Common.{◌≡◌, ℕ, ◌≤◌, true, false, List, [], ◌∷◌, nat_eq, Some, refl, sym, ap, ◌∙◌, subst, arith}
use Rattle.std.specs.Prelude.{Result, Ok, Err, IfOk}
use Rattle.mk_text.specs.Rising.{AreFirst}
use Rattle.mk_rows.specs.declared.by_number.Numbered.{Numbered}
use Rattle.mk_model.specs.Keys.{Remains}
use Rattle.mk_model.specs.Molecules.{Molecule}
use Rattle.mk_model.specs.Queries.{QueryView}
use Rattle.mk_sdfile.specs.Sdfile.{HasOneValue}
use Rattle.mk_mol.specs.Laws.{OneFilledMolecule}
use Rattle.mk_outside.specs.declared.tables.Change.{Change}
use Rattle.mk_outside.specs.declared.tables.Change.TheVariants.{PutCursor, DropCursor}
use Rattle.mk_outside.specs.declared.tables.RecordRow.{RecordRow}
use Rattle.mk_library.specs.Records.{AreHeld, IsMoleculeAt}
use Rattle.mk_library.proofs.ForCallers.{at_is_item, item_is_at}
use Rattle.mk_search.specs.declared.pages.Page.{Page}
use Rattle.mk_search.specs.Begins.{BeginsOfPage}
use Rattle.mk_search.specs.Pages.{IsHeldIn}
use Rattle.mk_found.specs.declared.effect.Found.{Found}
use Rattle.mk_found.specs.declared.effect.Found.TheVariants as found
use Rattle.mk_found.specs.Effects.{Effect, Refuses}
use Rattle.mk_effects.specs.Hits.{HaveParts}
use Rattle.mk_found.specs.Findings.{effect_of}
use Rattle.mk_kept.specs.Saved.{SavedView, is_named}
use Rattle.mk_kept.specs.SavedPending.{SavedFits, SavedPendingView}
use Rattle.mk_effects.proofs.HitLinesLemmas.{have_parts}
use Rattle.mk_effects.proofs.ListingsLemmas.{begins_over, key_of}

-- ---- the first keys

-- the first keys over the molecules of a library are those over its records
pub first_over_records : OneFilledMolecule → HasOneValue → (records : List RecordRow) (rows : List (Numbered Molecule)) (query : QueryView) (place : List ℕ) (limit : ℕ) (keys : List (List ℕ))
    → AreHeld records rows → AreFirst limit (Remains (IsHeldIn rows) query place) keys → AreFirst limit (Remains (IsMoleculeAt records) query place) keys
first_over_records filled sdfile records rows query place limit keys held first = record {
  rises = first.rises;
  each = λ key is. let remains = first.each key is in (key_of (IsHeldIn rows) (IsMoleculeAt records) query key (λ n mol h. item_is_at records rows n mol held h) remains.0, remains.1);
  few = first.few;
  others = λ key is. first.others key (key_of (IsMoleculeAt records) (IsHeldIn rows) query key (λ n mol h. at_is_item filled sdfile records rows n mol held h) is.0, is.1);
}

-- how often is begun over the molecules of a library is how often over those of its records
pub begins_over_records : (records : List RecordRow) (rows : List (Numbered Molecule)) (query : QueryView) (place : List ℕ) (page : Page) (old new : ℕ) → AreHeld records rows
    → BeginsOfPage (IsHeldIn rows) query place page old new → BeginsOfPage (IsMoleculeAt records) query place page old new
begins_over_records records rows query place page old new held =
    begins_over (IsHeldIn rows) (IsMoleculeAt records) query place page old new (λ n mol h. item_is_at records rows n mol held h)

pub parts_over_records : (records : List RecordRow) (query : QueryView) (place : List ℕ) (limit : ℕ) (keys : List (List ℕ))
    → AreFirst limit (Remains (IsMoleculeAt records) query place) keys → HaveParts query keys
parts_over_records records query place limit keys first =
    have_parts (Remains (IsMoleculeAt records) query place) (IsMoleculeAt records) query limit keys (λ key is. is.0) first

-- ---- changes that fit

pub put_fits : (saved : SavedView) (pending : SavedPendingView) (number : ℕ) (name place : List ℕ) → pending.changes ≡ PutCursor number name place ∷ []
    → is_named name saved.queries ≡ true → 1 ≤ saved.cursor_room → SavedFits saved pending
put_fits saved pending number name place is named spare = record {
  places = rw is ((named, tt));
  queries = rw is (omega arith);
  cursors = rw is spare;
}

-- the change that drops a search saves none
pub none_put : (batch : List Change) (c d : ℕ) (other at : List ℕ) → batch ≡ DropCursor c ∷ [] → batch ≡ PutCursor d other at ∷ [] → ⊥
none_put batch c d other at drops puts =
    let same : DropCursor c ∷ [] ≡ PutCursor d other at ∷ [] = sym drops ∙ puts in
    cc

-- ---- refusals

-- what is said of a refusal
pub refused_if : {E : Type 0} {P : Effect → Type 0} (line : List ℕ) (r : Result Found E) → IfOk r (λ f. f ≡ found.Refused line) → ((effect : Effect) → effect ≡ Refuses line → P effect)
    → IfOk r (λ f. P (effect_of f))
refused_if line (Ok f) is p = p (effect_of f) (ap effect_of is)
refused_if line (Err e) is p = tt
