-- Where a group can't be filled as often as its range says, nothing that is chosen further is allowed.
--     lost        its range is asked for, a site of it stands or will stand, and the range is missed
use Rattle.std.proofs.Common.{◌≡◌, ℕ, ◌+◌, ◌<◌, ◌≤◌, ◌&&◌, ◌||◌, inl, inr, Bool, true, false, List, [], ◌∷◌, ◌++◌, refl, arith, All}
use Rattle.std.specs.Prelude.{nat_le, nat_lt}
use Rattle.std.specs.List.{list_all}
use Rattle.std.proofs.lemmas.Bool.Decides.{nat_tests}
use Rattle.mk_text.proofs.ForCallers.{both}
use Rattle.mk_model.specs.declared.group.Group.{Group}
use Rattle.mk_model.specs.declared.group.Interval.{Interval}
use Rattle.mk_model.specs.declared.query.Count.{Count}
use Rattle.mk_model.specs.declared.template.Slot.{Slot}
use Rattle.mk_model.specs.Queries.{QueryView}
use Rattle.mk_model.specs.QueryFits.{QueryFits}
use Rattle.mk_model.specs.Logic.{IsAsked, IsGroupAt, is_in_range, sites_of}
use Rattle.mk_model.specs.OpenSlots.{Chooses, opened, standing_at, standing_by}
use Rattle.mk_model.proofs.ForCallers.{all_pass, some_passes}
use Rattle.mk_logic.specs.Counts.{filled_at, sites_at}
use Rattle.mk_choice.specs.Ahead.{open_sites}
use Rattle.mk_choice.specs.Bounds.{AreBounds, Misses, bound_in, lies_apart, most_filled}
use Rattle.mk_choice.specs.Search.{CantComplete, Completes, IsKnown, filled_with, sites_with}
use Rattle.mk_choice.proofs.AheadLemmas.{open_both, open_first}
use Rattle.mk_choice.proofs.BoundLemmas.{filled_within}
use Rattle.mk_choice.proofs.CountLemmas.{sites_both, stands_at}

-- ---- where more is filled

-- what is asked for stays asked for
pub asked_more : (query : QueryView) (filled more : ℕ → ℕ) (g : ℕ) → ((h : ℕ) → filled h ≤ more h) → IsAsked query filled g → IsAsked query more g
asked_more query filled more g up (inl none) = inl none
asked_more query filled more g up (inr (h, names, some)) = inr (h, names, omega (arith, some, up h))

-- a number above all intervals is in none
above_all : (range : List Interval) (n m : ℕ) → n ≤ m → list_all (λ interval. nat_lt interval.most n) range ≡ true → is_in_range range m ≡ true → ⊥
above_all range n m up above within =
    let found = some_passes (λ interval. nat_le interval.least m && nat_le m interval.most) range within in
    let tests = both (nat_le found.item.least m) (nat_le m found.item.most) found.passes in
    let below : m ≤ found.item.most = (let test = tests.1 in grind (arith, nat_tests)) in
    let past : found.item.most < n = (let test = all_pass (λ interval. nat_lt interval.most n) range found.place found.item above found.at in grind (arith, nat_tests)) in
    omega (arith, below, past, up)

-- a number between two others is in none of the intervals that lie apart from them
apart_all : (range : List Interval) (low high n : ℕ) → low ≤ n → n ≤ high → list_all (lies_apart low high) range ≡ true → is_in_range range n ≡ true → ⊥
apart_all range low high n from to apart within =
    let found = some_passes (λ interval. nat_le interval.least n && nat_le n interval.most) range within in
    let tests = both (nat_le found.item.least n) (nat_le n found.item.most) found.passes in
    let above : found.item.least ≤ n = (let test = tests.0 in grind (arith, nat_tests)) in
    let below : n ≤ found.item.most = (let test = tests.1 in grind (arith, nat_tests)) in
    by_test found.item above below (nat_lt found.item.most low) refl (all_pass (lies_apart low high) range found.place found.item apart found.at)
  where
    by_test : (interval : Interval) → interval.least ≤ n → n ≤ interval.most → (b : Bool) → nat_lt interval.most low ≡ b → (b || nat_lt high interval.least) ≡ true → ⊥
    by_test interval above below true e is = (let past : interval.most < low = grind (arith, nat_tests) in omega (arith, past, below, from))
    by_test interval above below false e is = (let past : high < interval.least = grind (arith, nat_tests) in omega (arith, past, above, to))

-- ---- the open sites will stand

pub sites_stand : (query : QueryView) (g : ℕ) (slots : List Slot) (code : List ℕ) → Chooses query slots code → open_sites slots g ≤ sites_of (standing_by query slots code) g
sites_stand query g [] code chooses = omega arith
sites_stand query g (slot ∷ slots) [] chooses = absurd chooses
sites_stand query g (slot ∷ slots) (k ∷ code) chooses =
    let there = sites_stand query g (opened query slot k ++ slots) code chooses.2 in
    let inside = open_both (opened query slot k) slots g in
    let behind = sites_both (standing_at slot k) (standing_by query (opened query slot k ++ slots) code) g in
    omega (arith, there, inside, behind, open_first slot slots g, stands_at slot k g)

-- ---- what can't be completed

module _ (query : QueryView) (fits : QueryFits query) (counts : List Count) (slots : List Slot) (known : All IsKnown slots) (g : ℕ) (group : Group) (at : IsGroupAt query g group)
    (stands : 0 < sites_at counts g + open_sites slots g) (asked : IsAsked query (filled_at counts) g) where
  -- in the end the number of its filled sites is in the range
  in_range : (others : List ℕ) → Completes query counts slots others → is_in_range group.range (filled_with query counts (standing_by query slots others) g) ≡ true
  in_range others is =
      let some : 0 < sites_with counts (standing_by query slots others) g = omega (arith, stands, sites_stand query g slots others is.chooses) in
      is.logic g group at some (asked_more query (filled_at counts) (filled_with query counts (standing_by query slots others)) g (λ h. omega arith) asked)

  pub lost : (most : List ℕ) → AreBounds query most → g ≤ 32 → Misses group.range (filled_at counts g) (most_filled (bound_in most) slots g) → CantComplete query counts slots
  lost most are high (inl above) others is =
      above_all group.range (filled_at counts g) (filled_with query counts (standing_by query slots others) g) (omega arith) above (in_range others is)
  lost most are high (inr (small, apart)) others is =
      let within = filled_within query fits (bound_in most) are.bounds g at.0 high slots known others is.chooses small in
      apart_all group.range (filled_at counts g) (filled_at counts g + most_filled (bound_in most) slots g) (filled_with query counts (standing_by query slots others) g)
      (omega arith) (omega (arith, within)) apart (in_range others is)
