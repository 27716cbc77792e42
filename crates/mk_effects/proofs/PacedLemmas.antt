-- Pages that may pause, over the molecules of records.
--     paced_keys      over what is held so as the records hold it, they are keys that are listed with a budget
--     stops_paced     a list with a budget stops so as its page
--     parts_of_page, listing_of_page, begins_of_page     a page over the molecules of a library
use Rattle.std.proofs.Common.{◌≡◌, ℕ, ◌-◌, ◌≤◌, List, length, refl, sym, subst, Some, arith}
use Rattle.mk_text.proofs.ForCallers.{each_from}
use Rattle.mk_model.specs.Keys.{IsKey}
use Rattle.mk_model.specs.Molecules.{Molecule}
use Rattle.mk_model.specs.Nodes.{Ahead}
use Rattle.mk_model.specs.Queries.{QueryView}
use Rattle.mk_outside.specs.declared.tables.RecordRow.{RecordRow}
use Rattle.mk_search.specs.declared.paced.Paced.{Paced}
use Rattle.mk_search.specs.declared.paced.Stop.{Stop as PacedStop}
use Rattle.mk_search.specs.declared.paced.Stop.TheVariants as paced
use Rattle.mk_search.specs.Begins.{BeginsOfPaced, IsPairFrom}
use Rattle.mk_search.specs.Paced.{IsPacedPage, StopsSo}
use Rattle.mk_rows.specs.declared.by_number.Numbered.{Numbered}
use Rattle.mk_sdfile.specs.Sdfile.{HasOneValue}
use Rattle.mk_mol.specs.Laws.{OneFilledMolecule}
use Rattle.mk_library.specs.Records.{AreHeld, IsMoleculeAt}
use Rattle.mk_search.specs.Pages.{IsHeldIn}
use Rattle.mk_effects.specs.declared.hit_lines.Stop.{Stop}
use Rattle.mk_effects.specs.Hits.{HaveParts, IsHitsText, stop_of_paced}
use Rattle.mk_effects.specs.Searching.{ArePacedKeys, IsListing, StopsWithin}
use Rattle.mk_effects.proofs.ListingsLemmas.{key_of, pair_of}
use Rattle.mk_library.proofs.ForCallers.{at_is_item, item_is_at}
use Rattle.mk_effects.proofs.SearchingLemmas.{parts_over_records}

-- a page that may pause has no more keys than asked for
few_keys : (Held : ℕ → Molecule → Type 0) (query : QueryView) (place : List ℕ) (limit b : ℕ) (keys : List (List ℕ)) (next : List ℕ) (spent : ℕ) (s : PacedStop)
    → StopsSo Held query place limit b keys next spent s → length keys ≤ limit
few_keys Held query place limit b keys next spent paced.Full is = omega (arith, is.0)
few_keys Held query place limit b keys next spent paced.Ended is = omega (arith, is.0)
few_keys Held query place limit b keys next spent paced.Paused is = omega (arith, is.0)

module _ (Held : ℕ → Molecule → Type 0) (records : List RecordRow) (query : QueryView) (to : (n : ℕ) (mol : Molecule) → Held n mol → IsMoleculeAt records n mol)
    (from : (n : ℕ) (mol : Molecule) → IsMoleculeAt records n mol → Held n mol) where
  key_to : (key : List ℕ) → IsKey Held query key → IsKey (IsMoleculeAt records) query key
  key_to key is = key_of Held (IsMoleculeAt records) query key to is

  key_from : (key : List ℕ) → IsKey (IsMoleculeAt records) query key → IsKey Held query key
  key_from key is = key_of (IsMoleculeAt records) Held query key from is

  ahead_to : (place next : List ℕ) (k : ℕ) → Ahead Held query place next k → Ahead (IsMoleculeAt records) query place next k
  ahead_to place next k ahead = record {
    nodes = ahead.nodes;
    rise = ahead.rise;
    each = λ node held. (let is = ahead.each node held in record {
      number = is.number;
      mol = is.mol;
      numbers = is.numbers;
      held = to is.number is.mol is.held;
      reached = is.reached;
      whole = is.whole;
    });
    above = ahead.above;
    not_above = ahead.not_above;
    many = ahead.many;
  }

  pub stops_paced : (place : List ℕ) (limit b c : ℕ) (keys : List (List ℕ)) (next : List ℕ) (spent : ℕ) (s : PacedStop)
      → StopsSo Held query place limit b keys next spent s → StopsWithin records query place limit b c keys next (stop_of_paced s c)
  stops_paced place limit b c keys next spent paced.Full is = (refl, is.0, is.1)
  stops_paced place limit b c keys next spent paced.Ended is = (is.0, λ other key not. is.1 other (key_from other key) not)
  stops_paced place limit b c keys next spent paced.Paused is = (refl, is.0, ahead_to place next (b - 514) is.2)

  pub paced_keys : (place : List ℕ) (limit b c before after : ℕ) (page : Paced) → IsPacedPage Held query place limit b before after page
      → ArePacedKeys records query place limit b c page.hits (stop_of_paced page.stop c) page.place
  paced_keys place limit b c before after page is = record {
    up_to = record {
      first = record {
        rises = is.up_to.first.rises;
        each = λ key held. (let remains = is.up_to.first.each key held in (key_to key remains.0, remains.1));
        few = is.up_to.first.few;
        others = λ key remains. is.up_to.first.others key (key_from key remains.0, remains.1);
      };
      others = record {
        on = λ key has not below. is.up_to.others.on key (key_from key has) not below;
        back = λ key has not below. is.up_to.others.back key (key_from key has) not below;
      };
      up = is.up_to.up;
    };
    few = few_keys Held query place limit b page.hits page.place is.spent page.stop is.stops;
    within = omega (arith, is.each_counted, is.within);
    stop = stops_paced place limit b c page.hits page.place is.spent page.stop is.stops;
    short = is.short;
  }

begins_to : (Held : ℕ → Molecule → Type 0) (records : List RecordRow) (query : QueryView) → ((n : ℕ) (mol : Molecule) → Held n mol → IsMoleculeAt records n mol)
    → (place : List ℕ) (page : Paced) (old new : ℕ) → BeginsOfPaced Held query place page old new → BeginsOfPaced (IsMoleculeAt records) query place page old new
begins_to Held records query to place page old new begins = record {
  pairs = begins.pairs;
  rises = begins.rises;
  each = each_from (IsPairFrom Held query place) (IsPairFrom (IsMoleculeAt records) query place) begins.pairs (pair_of Held (IsMoleculeAt records) query place to) begins.each;
  ticks = begins.ticks;
  up_to = begins.up_to;
  fronts = begins.fronts;
}

-- ---- over the molecules of a library

module _ (filled : OneFilledMolecule) (sdfile : HasOneValue) (records : List RecordRow) (rows : List (Numbered Molecule)) (query : QueryView) (place : List ℕ) (limit b c before after : ℕ)
    (page : Paced) (held : AreHeld records rows) (is : IsPacedPage (IsHeldIn rows) query place limit b before after page) where
  keys_of_page : ArePacedKeys records query place limit b c page.hits (stop_of_paced page.stop c) page.place
  keys_of_page =
      paced_keys (IsHeldIn rows) records query (λ n mol h. item_is_at records rows n mol held h) (λ n mol h. at_is_item filled sdfile records rows n mol held h) place limit b c before after page is

  pub parts_of_page : HaveParts query page.hits
  parts_of_page = parts_over_records records query place (length page.hits) page.hits keys_of_page.up_to.first

  pub listing_of_page : (stops : Stop) (text : List ℕ) → stops ≡ stop_of_paced page.stop c → IsHitsText query page.hits stops text
      → IsListing records query place limit (Some b) c page.hits stops page.place text
  listing_of_page stops text same lines = record {
    listed = subst (λ (s : Stop). ArePacedKeys records query place limit b c page.hits s page.place) (sym same) keys_of_page;
    lines = lines;
  }

pub begins_of_page : (records : List RecordRow) (rows : List (Numbered Molecule)) (query : QueryView) (place : List ℕ) (page : Paced) (old new : ℕ) → AreHeld records rows
    → BeginsOfPaced (IsHeldIn rows) query place page old new → BeginsOfPaced (IsMoleculeAt records) query place page old new
begins_of_page records rows query place page old new held begins =
    begins_to (IsHeldIn rows) records query (λ n mol h. item_is_at records rows n mol held h) place page old new begins
