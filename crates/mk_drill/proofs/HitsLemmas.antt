-- The hits of the drill: what is held in other words, and pages one behind the other.
use Rattle.std.proofs.Common.{[], ◌++◌, ◌≡◌, ℕ, ◌<◌, ◌≤◌, true, false, List, length, arith, refl, sym, ap, ◌∙◌, ◌⊎◌, subst, inl, inr, append_assoc}
use Rattle.std.proofs.lemmas.Bool.{ltb-true, ltb-false}
use Rattle.std.proofs.lemmas.List.{append-nil}
use Rattle.mk_text.specs.Rising.{AreFirst, Each, Holds, IsBelow, IsRisingListOfAll}
use Rattle.mk_model.specs.Keys.{IsKey, Remains}
use Rattle.mk_model.specs.Molecules.{Molecule}
use Rattle.mk_model.specs.Queries.{QueryView}
use Rattle.mk_rows.specs.declared.by_number.Numbered.{Numbered}
use Rattle.mk_search.specs.declared.pages.Page.{Page}
use Rattle.mk_search.specs.Pages.{IsHeldIn, IsPage}
use Rattle.mk_search.proofs.ForCallers.{page_and_others}
use Rattle.mk_drill.specs.Drill.{AreHits, HoldsDrilled, IsLeft}
use Rattle.mk_drill.specs.DrilledRecords.{HoldsExactly}
use Rattle.mk_drill.specs.Listing.{AreOthers}

-- ---- keys by what is held

key_by : (A B : ℕ → Molecule → Type 0) (query : QueryView) (key : List ℕ) → ((n : ℕ) (mol : Molecule) → A n mol → B n mol) → IsKey A query key → IsKey B query key
key_by A B query key to is = record { number = is.number; mol = is.mol; numbers = is.numbers; held = to is.number is.mol is.held; occurs = is.occurs; whole = is.whole }

-- two ways to say what is held
record AreAlike (A B : ℕ → Molecule → Type 0) : Type 0 where
  to : (n : ℕ) (mol : Molecule) → A n mol → B n mol
  from : (n : ℕ) (mol : Molecule) → B n mol → A n mol

remains_by : (A B : ℕ → Molecule → Type 0) (query : QueryView) (place key : List ℕ) → ((n : ℕ) (mol : Molecule) → A n mol → B n mol) → Remains A query place key → Remains B query place key
remains_by A B query place key to is = (key_by A B query key to is.0, is.1)

first_by : (A B : ℕ → Molecule → Type 0) (query : QueryView) (place : List ℕ) (most : ℕ) (keys : List (List ℕ))
    → AreAlike A B → AreFirst most (Remains A query place) keys → AreFirst most (Remains B query place) keys
first_by A B query place most keys alike are = record {
  rises = are.rises;
  each = λ key held. remains_by A B query place key alike.to (are.each key held);
  few = are.few;
  others = λ key is. are.others key (remains_by B A query place key alike.from is);
}

all_by : (A B : ℕ → Molecule → Type 0) (query : QueryView) (place : List ℕ) (keys : List (List ℕ)) → AreAlike A B
    → IsRisingListOfAll (Remains A query place) keys → IsRisingListOfAll (Remains B query place) keys
all_by A B query place keys alike are = record {
  rises = are.rises;
  each = λ key held. remains_by A B query place key alike.to (are.each key held);
  all = λ key is. are.all key (remains_by B A query place key alike.from is);
}

alike_of : (rows : List (Numbered Molecule)) (Held : ℕ → Molecule → Type 0) → HoldsExactly rows Held → AreAlike (IsHeldIn rows) Held
alike_of rows Held holds = record { to = λ n mol is. (holds n mol).0 is; from = λ n mol is. (holds n mol).1 is }

-- ---- the last page

-- a page that isn't full has all
pub page_is_all : (P : List ℕ → Type 0) (most : ℕ) (keys : List (List ℕ)) → AreFirst most P keys → length keys < most → IsRisingListOfAll P keys
page_is_all P most keys are few = record {
  rises = are.rises;
  each = are.each;
  all = λ key is. by_cases key (are.others key is);
}
  where
    by_cases : (key : List ℕ) → Holds keys key ⊎ ((length keys ≡ most) × Each (λ ys. IsBelow ys key) keys) → Holds keys key
    by_cases key (inl held) = held
    by_cases key (inr more) = absurd (omega (arith, more.0))

-- ---- pages one behind the other

-- Some keys were listed up to a place: with those that remain from there they are all that remained.
pub record AreListed (rows : List (Numbered Molecule)) (query : QueryView) (place : List ℕ) (former hits : List (List ℕ)) (from : List ℕ) : Type 0 where
  pub listed : List (List ℕ)
  pub whole : hits ≡ former ++ listed
  pub all : (others : List (List ℕ)) → IsRisingListOfAll (Remains (IsHeldIn rows) query from) others → IsRisingListOfAll (Remains (IsHeldIn rows) query place) (listed ++ others)

pub listed_none : (rows : List (Numbered Molecule)) (query : QueryView) (place : List ℕ) (former : List (List ℕ)) → AreListed rows query place former former place
listed_none rows query place former = record { listed = []; whole = sym (append-nil former); all = λ others all. all }

-- a page more
pub listed_more : (rows : List (Numbered Molecule)) (query : QueryView) (place : List ℕ) (former hits : List (List ℕ)) (from : List ℕ) (page : Page)
    → IsPage (IsHeldIn rows) query from 100 page → AreListed rows query place former hits from → AreListed rows query place former (hits ++ page.hits) page.place
listed_more rows query place former hits from page is so_far = record {
  listed = so_far.listed ++ page.hits;
  whole = ap (λ (xs : List (List ℕ)). xs ++ page.hits) so_far.whole ∙ append_assoc former so_far.listed page.hits;
  all = λ others all.
      subst (IsRisingListOfAll (Remains (IsHeldIn rows) query place)) (sym (append_assoc so_far.listed page.hits others))
      (so_far.all (page.hits ++ others) (page_and_others rows query from 100 page others is all));
}

-- the last page
pub listed_all : (rows : List (Numbered Molecule)) (query : QueryView) (place : List ℕ) (former hits : List (List ℕ)) (from : List ℕ) (page : Page)
    → IsPage (IsHeldIn rows) query from 100 page → page.ended ≡ true → AreListed rows query place former hits from → AreOthers rows query place former (hits ++ page.hits)
listed_all rows query place former hits from page is ended so_far =
    let few : length page.hits < 100 = ltb-true (length page.hits) 100 (sym is.ended ∙ ended) in
    record {
      others = so_far.listed ++ page.hits;
      all = so_far.all page.hits (page_is_all (Remains (IsHeldIn rows) query from) 100 page.hits is.hits few);
      whole = ap (λ (xs : List (List ℕ)). xs ++ page.hits) so_far.whole ∙ append_assoc former so_far.listed page.hits;
    }

-- ---- all hits

-- those of one page
pub one_page_of_hits : (start count : ℕ) (query : QueryView) (rows : List (Numbered Molecule)) (page : Page)
    → HoldsExactly rows (HoldsDrilled start count) → IsPage (IsHeldIn rows) query [] 100 page → page.ended ≡ true
    → AreHits start count query page.hits
one_page_of_hits start count query rows page holds is ended =
    let few : length page.hits < 100 = ltb-true (length page.hits) 100 (sym is.ended ∙ ended) in
    record {
      page = page.hits;
      others = [];
      whole = sym (append-nil page.hits);
      first = first_by (IsHeldIn rows) (HoldsDrilled start count) query [] 100 page.hits (alike_of rows (HoldsDrilled start count) holds) is.hits;
      ended = λ less. refl;
      behind = λ full. absurd (omega (arith, few, full));
    }

-- those of a full page and of the pages behind the removal
pub more_hits : (start count : ℕ) (query : QueryView) (rows left : List (Numbered Molecule)) (page : Page)
    (hits : List (List ℕ)) → HoldsExactly rows (HoldsDrilled start count) → HoldsExactly left (IsLeft start count)
    → IsPage (IsHeldIn rows) query [] 100 page → page.ended ≡ false → AreOthers left query page.place page.hits hits → AreHits start count query hits
more_hits start count query rows left page hits holds leaves is ended more =
    let full : 100 ≤ length page.hits = ltb-false (length page.hits) 100 (sym is.ended ∙ ended) in
    record {
      page = page.hits;
      others = more.others;
      whole = more.whole;
      first = first_by (IsHeldIn rows) (HoldsDrilled start count) query [] 100 page.hits (alike_of rows (HoldsDrilled start count) holds) is.hits;
      ended = λ less. absurd (omega (arith, full, less));
      behind = λ same.
          subst (λ (place : List ℕ). IsRisingListOfAll (Remains (IsLeft start count) query place) more.others) is.next
          (all_by (IsHeldIn left) (IsLeft start count) query page.place more.others (alike_of left (IsLeft start count) leaves) more.all);
    }
