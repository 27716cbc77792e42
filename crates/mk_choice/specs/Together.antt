-- For the code: how often several groups together can be filled further.
--     total f n                   the first n values of f together
--     is_wanting wants i          the group of number i + 1 wants more
--     is_capped caps i            it gets no more than a number
--     served_by bound wants h     a filled site of group h serves those that want more at most so often
--     KeepsTo wants caps more     each group gets no less than it wants, and no more than it may
--     InEach query counts ahead P     P holds of what each completion fills further
--     IsFree bound wants caps free    an open site of each label serves by itself so often
--     MissTogether bound wants caps slots     the open slots can't serve all that is wanted
--     MissAmong bound wants caps slots    nor what some of the groups want, by the ends of some
use Rattle.std.specs.Prelude.{◌≡◌, ◌≤◌, ◌<◌, ◌+◌, ◌-◌, ◌*◌, nat_le, nat_lt, ℕ, zero, suc, Bool, List, length, sum_by, slice_index, if◌then◌else◌}
use Rattle.mk_model.specs.declared.query.Count.{Count}
use Rattle.mk_model.specs.declared.template.Slot.{Slot}
use Rattle.mk_model.specs.Labels.{site_labels}
use Rattle.mk_model.specs.Logic.{IsAsked, filled_of}
use Rattle.mk_model.specs.OpenSlots.{standing_by}
use Rattle.mk_model.specs.Queries.{QueryView}
use Rattle.mk_model.specs.Sizes.{greatest}
use Rattle.mk_logic.specs.Counts.{filled_at}
use Rattle.mk_choice.specs.declared.pending.Ahead.{Ahead}
use Rattle.mk_choice.specs.declared.pending.Limits.{Limits}
use Rattle.mk_choice.specs.Ahead.{open_sites}
use Rattle.mk_choice.specs.Search.{Completes}

-- the first n values of f together
unfoldable pub total : (ℕ → ℕ) → ℕ → ℕ
total f zero = 0
total f (suc n) = total f n + f n

-- ---- what each group still needs, and may get

-- the group of number i + 1 wants more
abbrev pub is_wanting : List ℕ → ℕ → Bool
is_wanting wants i = nat_lt 0 (slice_index wants i)

-- it gets no more than a number; one above 512 says nothing
abbrev pub is_capped : List ℕ → ℕ → Bool
is_capped caps i = nat_le (slice_index caps i) 512

-- where so many sites of each group are filled further, each gets no less than it wants, and no
-- more than it may
pub record KeepsTo (wants caps : List ℕ) (more : ℕ → ℕ) : Type 0 where
  pub least : (i : ℕ) → i < 32 → slice_index wants i ≤ more (i + 1)
  pub most : (i : ℕ) → i < 32 → slice_index caps i ≤ 512 → more (i + 1) ≤ slice_index caps i

-- the lists are of 32 numbers, one a group
pub record HasLimits (limits : Limits) : Type 0 where
  pub wants : length limits.wants ≡ 32
  pub caps : length limits.caps ≡ 32

-- the open sites of each group are as many as these
abbrev pub IsOpenAs : Ahead → List Slot → Type 0
IsOpenAs ahead slots = (i : ℕ) → i < 32 → slice_index ahead.sites i ≡ open_sites slots (i + 1)

-- whatever the open slots are and completes the counts, P holds of how often it fills each group
abbrev pub InEach : QueryView → List Count → Ahead → ((ℕ → ℕ) → Type 0) → Type 0
InEach query counts ahead P =
    (slots : List Slot) (others : List ℕ) → IsOpenAs ahead slots → Completes query counts slots others → P (filled_of query (standing_by query slots others))

-- where so many are filled further, the range of group g is asked for
abbrev pub AsksFor : QueryView → List Count → ℕ → (ℕ → ℕ) → Type 0
AsksFor query counts g more = IsAsked query (λ h. filled_at counts h + more h) g

-- ---- what the open slots serve

-- a filled site of group h serves those that want more at most so often, with all that stands inside
abbrev pub served_by : (ℕ → ℕ → ℕ) → List ℕ → ℕ → ℕ
served_by bound wants h = total (λ i. if is_wanting wants i then bound h (i + 1) else 0) 32

-- the groups with an end serve at most so often, wherever they are filled
abbrev pub served_to_ends : (ℕ → ℕ → ℕ) → List ℕ → List ℕ → ℕ
served_to_ends bound wants caps = total (λ i. if is_capped caps i then slice_index caps i * served_by bound wants (i + 1) else 0) 32

-- at these slots the others serve at most so often: one label is taken at each site
abbrev pub served_at : (ℕ → ℕ) → List Slot → ℕ
served_at free slots = sum_by (λ slot. greatest free (site_labels slot)) slots

-- an open site of label h serves so often by itself: nothing where the group has an end
abbrev pub IsFree : (ℕ → ℕ → ℕ) → List ℕ → List ℕ → (ℕ → ℕ) → Type 0
IsFree bound wants caps free = (h : ℕ) → 1 ≤ h → h ≤ 32 → free h ≡ (if is_capped caps (h - 1) then 0 else served_by bound wants h)

-- the numbers of a list, from label 1 on
abbrev pub free_in : List ℕ → ℕ → ℕ
free_in free h = slice_index free (h - 1)

-- all that is served is less than what is wanted; a number above 512 says nothing
pub record MissTogether (bound : ℕ → ℕ → ℕ) (wants caps : List ℕ) (slots : List Slot) : Type 0 where
  pub free : ℕ → ℕ
  pub is_free : IsFree bound wants caps free
  pub small : served_to_ends bound wants caps + served_at free slots ≤ 512
  pub less : served_to_ends bound wants caps + served_at free slots < total (slice_index wants) 32

-- so it is of some wants and ends that whatever keeps to these keeps to as well
pub record MissAmong (bound : ℕ → ℕ → ℕ) (wants caps : List ℕ) (slots : List Slot) : Type 0 where
  pub some_wants : List ℕ
  pub some_caps : List ℕ
  pub keeps : (more : ℕ → ℕ) → KeepsTo wants caps more → KeepsTo some_wants some_caps more
  pub miss : MissTogether bound some_wants some_caps slots
