-- How often `search` and `resume` begin the matcher.
--     begins_between     where a search within a budget is saved, it is begun up to the saved place
use Rattle.std.proofs.Common.{◌≡◌, ℕ, List, [], ◌∷◌, Some, refl, sym, ◌∙◌}
use Rattle.mk_outside.specs.declared.tables.Change.{Change}
use Rattle.mk_outside.specs.declared.tables.Change.TheVariants.{PutCursor}
use Rattle.mk_outside.specs.declared.tables.Tables.{Tables}
use Rattle.mk_effects.specs.declared.hit_lines.Stop.{Stop}
use Rattle.mk_effects.specs.declared.hit_lines.Stop.TheVariants as stop
use Rattle.mk_effects.specs.Ticks.{BeginsBetween, BeginsOfListing}

-- one change that saves a search is another only where both save the same place
same_place : (c d : ℕ) (name other next at : List ℕ) → PutCursor c name next ∷ [] ≡ PutCursor d other at ∷ [] → next ≡ at
same_place c d name other next at is = cc

-- the list goes on, so the place that is saved is the next one
goes_to : (t : Tables) (name place : List ℕ) (limit b c : ℕ) (batch : List Change) (text : List ℕ) (old new d : ℕ) (other at : List ℕ)
    → (listing : BeginsOfListing t name place limit (Some b) c batch text old new) → batch ≡ PutCursor c name listing.next ∷ [] → batch ≡ PutCursor d other at ∷ []
    → BeginsBetween t name place at old new
goes_to t name place limit b c batch text old new d other at listing on is = record {
  query = listing.query;
  named = listing.named;
  paced = listing.begins.paced;
  at = sym listing.begins.at ∙ same_place c d name other listing.next at (sym on ∙ is);
  begins = listing.begins.begins;
}

more_goes : (s : Stop) (c : ℕ) → s ≡ stop.More c → s ≡ stop.Ended → ⊥
more_goes s c is ends = let h = sym is ∙ ends in cc

paused_goes : (s : Stop) (c : ℕ) → s ≡ stop.Paused c → s ≡ stop.Ended → ⊥
paused_goes s c is ends = let h = sym is ∙ ends in cc

by_stop : (t : Tables) (name place : List ℕ) (limit b c : ℕ) (batch : List Change) (text : List ℕ) (old new d : ℕ) (other at : List ℕ)
    → (listing : BeginsOfListing t name place limit (Some b) c batch text old new) → batch ≡ PutCursor d other at ∷ [] → (s : Stop) → listing.stops ≡ s
    → BeginsBetween t name place at old new
by_stop t name place limit b c batch text old new d other at listing is stop.Ended ends = absurd (listing.unsaved ends d other at is)
by_stop t name place limit b c batch text old new d other at listing is (stop.More m) stops =
    goes_to t name place limit b c batch text old new d other at listing (listing.saved (more_goes listing.stops m stops)) is
by_stop t name place limit b c batch text old new d other at listing is (stop.Paused m) stops =
    goes_to t name place limit b c batch text old new d other at listing (listing.saved (paused_goes listing.stops m stops)) is

-- where the batch saves a place, the matcher is begun from the first place up to that one
pub begins_between : (t : Tables) (name place : List ℕ) (limit b c : ℕ) (batch : List Change) (text : List ℕ) (old new d : ℕ) (other at : List ℕ)
    → BeginsOfListing t name place limit (Some b) c batch text old new → batch ≡ PutCursor d other at ∷ [] → BeginsBetween t name place at old new
begins_between t name place limit b c batch text old new d other at listing is = by_stop t name place limit b c batch text old new d other at listing is listing.stops refl
