-- The plain program on codes: all codes, by walking through what can be chosen. Searches and
-- examples are held to it.
--     codes_of n query slots      the codes of at most n numbers at these slots, in order
--     valid_codes query           those of the root that are valid
--     ValidCodesAreListed         they are the rising list of all valid codes
use Rattle.std.specs.Prelude.{◌+◌, ◌==◌, ◌&&◌, ◌||◌, nat_lt, ℕ, zero, suc, Bool, not, List, [], ◌∷◌, ◌++◌, map, filter, slice_index}
use Rattle.std.specs.List.{range_with_len, list_all, list_any}
use Rattle.mk_text.specs.Rising.{IsRisingListOfAll, joined_with}
use Rattle.mk_model.specs.declared.group.Group.{Group}
use Rattle.mk_model.specs.declared.template.Slot.{Slot}
use Rattle.mk_model.specs.Queries.{QueryView, slots_of}
use Rattle.mk_model.specs.Logic.{IsValid, filled_of, is_in_range, sites_of}
use Rattle.mk_model.specs.QueryFits.{QueryFits}
use Rattle.mk_model.specs.OpenSlots.{most_at, opened, standing_by}

-- the numbers from a on, so many of them, each as a list of its own
abbrev pub singles : ℕ → ℕ → List (List ℕ)
singles a n = map (λ k. k ∷ []) (range_with_len a n)

-- the codes of at most n numbers at these slots, in order: a number at the first slot, and behind
-- it each code at the slots that are open then
abbrev pub codes_of : ℕ → QueryView → List Slot → List (List ℕ)
codes_of n query [] = [] ∷ []
codes_of zero query (slot ∷ slots) = []
codes_of (suc n) query (slot ∷ slots) =
    joined_with (λ front. codes_of n query (opened query slot (slice_index front 0) ++ slots)) (singles 1 (most_at query slot))

-- the groups with their numbers, the first of them number g
abbrev pub numbered : ℕ → List Group → List (ℕ × Group)
numbered g [] = []
numbered g (group ∷ groups) = (g, group) ∷ numbered (g + 1) groups

-- no group names group g, or one that does has a filled site
abbrev pub is_asked_of : List Group → (ℕ → ℕ) → ℕ → Bool
is_asked_of groups filled_in g =
    not (list_any (λ (h, group). group.then_group == g) (numbered 1 groups))
    || list_any (λ (h, group). (group.then_group == g) && nat_lt 0 (filled_in h)) (numbered 1 groups)

-- each group that has a site and whose range is asked for is filled as often as its range says
abbrev pub allows : List Group → (ℕ → ℕ) → (ℕ → ℕ) → Bool
allows groups sites_in filled_in =
    list_all (λ (g, group). not (nat_lt 0 (sites_in g)) || (not (is_asked_of groups filled_in g) || is_in_range group.range (filled_in g))) (numbered 1 groups)

-- the sites of a code of the root are filled as often as the groups allow
unfoldable pub is_allowed_code : QueryView → List ℕ → Bool
is_allowed_code query code =
    let standing = standing_by query (slots_of query 0) code in
    allows query.groups (sites_of standing) (filled_of query standing)

-- the valid codes of a query, in order
unfoldable pub valid_codes : QueryView → List (List ℕ)
valid_codes query = filter (is_allowed_code query) (codes_of 512 query (slots_of query 0))

-- `valid_codes` is the rising list of all valid codes of a query: so there is such a list for every
-- query
abbrev pub ValidCodesAreListed : Type 0
ValidCodesAreListed = (query : QueryView) → QueryFits query → IsRisingListOfAll (IsValid query) (valid_codes query)
