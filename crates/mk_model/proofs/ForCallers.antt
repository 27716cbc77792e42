-- What the crates above need: the numbers of an atom's bonds, items by their places, ends of bonds.
--     IsNumberOf bonds n k        k numbers a bond of atom n
--     numbers_at-each             each number in the list of an atom is one
--     numbers_at-all              and each such number is in the list
--     length-numbers_from         an atom has as many numbers as bonds
--     slice_get-rows_of           the list of an atom among those of all
--     at_place, place_within, place_is, all_at, all_mapped     items of a list by their places
--     touches-ends, touches-second     a bond touches its ends
--     few_bonds                   a graph has fewer than 2^32 bonds
--     simple_template             a template's bonds are a simple list of edges
--     hangs .. hangs_closed       atoms that hang together; one_block: no atom is in two blocks
--     none_in_itself .. one_sizing, ranked_by_size       templates with ranks, and their sizes
--     one_choice, chooses_of .. standing_is, cut         codes as choices and from the left
--     no_longer, code_is_short    how long codes are
--     of_one_label .. greatest_joint     the members of a site, by its labels, and of which group it holds one
--     has_contains, contains_has  a number among some: so a site bears a label
--     filter_rising .. place_found     rising numbers, and how many of them are below another
--     allows_is .. allowed_same, some_passes .. passes_all      the logic of groups
--     code_of_valid .. begins_no_key      keys as a number, a code and a hit
--     host_in_range .. one_host   plain hydrogens and what they are bonded to
--     embedding_of, no_embedding  hits are embeddings, and without a hit there is none
--     no_repeat                   no atom stands at two places of a hit
--     codes_listed, valid_codes_listed    the plain program lists the structural codes, and the valid ones
--     all_1 .. pairs_two          what each of a few items, or each two of them, keeps
--     ahead_adds_up               what lies ahead adds up, whatever molecules are held
use Rattle.std.proofs.Common.{◌≡◌, ◌≤◌, ◌<◌, ◌+◌, ◌-◌, ℕ, zero, suc, Bool, true, false, cond, List, [], ◌∷◌, refl, length, get_or, take, arith}
use Rattle.mk_model.specs.declared.edge.Edge.{Edge}
use Rattle.mk_model.specs.Edges.{degree, numbers_from, numbers_at, touches}
use Rattle.mk_model.proofs.EdgesLemmas.{get_or-numbers_from, degree_within}
pub use Rattle.mk_model.proofs.EdgesLemmas.{length-numbers_from, length-rows_of, slice_get-rows_of, touches-first, touches-second, touches-ends, touches-other}
pub use Rattle.mk_model.proofs.PlaceLemmas.{at_place, place_within, place_is, all_at, all_mapped, drawn_between, drawn_first, drawn_second, bonds_between, bond_first, bond_second}
pub use Rattle.mk_model.proofs.GraphsLemmas.{few_bonds}
pub use Rattle.mk_model.proofs.TemplatesLemmas.{simple_template}
pub use Rattle.mk_model.proofs.BlockLemmas.{Hangs, hangs, hangs_tested, hangs_same, hangs_back, hangs_on, hangs_by, GoesAlong, hangs_closed, kept_within, kept_all, one_block}
pub use Rattle.mk_model.proofs.SizesLemmas.{IsRanked, none_in_itself, size_same, within_same, size_by_rank, sizing_of, one_sizing, greatest_contains, ranked_by_size}
pub use Rattle.mk_model.proofs.CodesLemmas.{AreOne, one_choice}
pub use Rattle.mk_model.proofs.OpenSlotsLemmas.{IsCut, cut, walks, enough, is_code_of, chooses_of, standing_walks, standing_is}
pub use Rattle.mk_model.proofs.CodeLengthLemmas.{most_numbers, no_longer, code_is_short}
pub use Rattle.mk_model.proofs.MembersLemmas.{IsOfLabel, of_label, of_one, joint_within, joint_passes, member_of_label, is_joint, members_rise, members_in_range, members_rise_within, of_one_label}
pub use Rattle.mk_model.proofs.MembersLemmas.{few_members_at, held_is, none_held, members_are, member_within, member_of_one, one_only, members_of_one, held_by, held_by_only, held_label, there_is, past_is, greatest_joint}
pub use Rattle.mk_model.proofs.NumbersLemmas.{has, has_contains, contains_has, or_false, RisesWithin, rises_within, filter_rising, one_if, count_same, count_le, count_or, count_rising, count_all, IsPlaceOf, place_found, rising_order}
pub use Rattle.mk_model.proofs.LogicLemmas.{IsPassed, some_passes, passes_some, all_pass, passes_all, allows_is, is_allowed, allowed_same}
pub use Rattle.mk_model.proofs.PlainCodesLemmas.{ChoosesWithin, codes_listed, law as valid_codes_listed}
unfoldable pub use Rattle.mk_model.proofs.FewLemmas.{edge}
pub use Rattle.mk_model.proofs.FewLemmas.{NoPair, all_1, all_2, all_3, all_same, once_by, pairs_none, pairs_one, pairs_two}
pub use Rattle.mk_model.proofs.TurnLemmas.{not_below_through, not_below_front, below_more, below_next, not_below_at, same_to_between, same_from_between, pays_visit, pays_end}
pub use Rattle.mk_model.proofs.HydrogenLemmas.{host_in_range, host_only, neighbour_only, no_host, one_host}
pub use Rattle.mk_model.proofs.OnceLemmas.{embedding_of, no_embedding, no_repeat}
pub use Rattle.mk_model.proofs.KeysLemmas.{code_of_valid, one_code, read_one_way, begins_no_occurrence, begins_no_key}
pub use Rattle.mk_model.proofs.NodesLemmas.{ahead_adds_up}

-- among bonds that are numbered from j on, k numbers one of atom n
pub record IsNumberFrom (j : ℕ) (bonds : List Edge) (n k : ℕ) : Type 0 where
  pub least : j ≤ k
  pub most : k < j + length bonds
  pub ends : (d : Edge) → touches n (get_or bonds (k - j) d) ≡ true

-- k numbers a bond of atom n
pub record IsNumberOf (bonds : List Edge) (n k : ℕ) : Type 0 where
  pub least : 1 ≤ k
  pub most : k ≤ length bonds
  pub ends : (d : Edge) → touches n (get_or bonds (k - 1) d) ≡ true

-- one bond more in front
one_more : (j : ℕ) (edge : Edge) (bonds : List Edge) (n k : ℕ) → IsNumberFrom (j + 1) bonds n k → IsNumberFrom j (edge ∷ bonds) n k
one_more j edge bonds n k is = record {
  least = omega (arith, is.least);
  most = omega (arith, is.most);
  ends = λ d. let place : k - j ≡ suc (k - (j + 1)) = omega (arith, is.least) in rw place (is.ends d);
}

-- each number in the list numbers a bond of the atom
numbers_from-each : (j : ℕ) (bonds : List Edge) (n i : ℕ) → i < length (numbers_from j bonds n) → IsNumberFrom j bonds n (get_or (numbers_from j bonds n) i 0)
numbers_from-each j [] n i below = absurd (omega arith)
numbers_from-each j (edge ∷ bonds) n i below = by_test (touches n edge) refl below (λ k. numbers_from-each (j + 1) bonds n k)
  where
    here : touches n edge ≡ true → IsNumberFrom j (edge ∷ bonds) n j
    here ends = record { least = omega arith; most = omega arith; ends = λ d. let place : j - j ≡ 0 = omega arith in rw place ends }

    by_test : (b : Bool) → touches n edge ≡ b → i < length
        (cond b (j ∷ numbers_from (j + 1) bonds n) (numbers_from (j + 1) bonds n))
        → ((k : ℕ) → k < length (numbers_from (j + 1) bonds n)
        → IsNumberFrom (j + 1) bonds n (get_or (numbers_from (j + 1) bonds n) k 0))
        → IsNumberFrom j (edge ∷ bonds) n (get_or (cond b (j ∷ numbers_from (j + 1) bonds n)
        (numbers_from (j + 1) bonds n)) i 0)
    by_test true ends below each =
        by_place i below
      where
        by_place : (i : ℕ) → i < length (j ∷ numbers_from (j + 1) bonds n) → IsNumberFrom j (edge ∷ bonds) n (get_or (j ∷ numbers_from (j + 1) bonds n) i 0)
        by_place zero below = here ends
        by_place (suc i) below = one_more j edge bonds n _ (each i (omega arith))
    by_test false ends below each = one_more j edge bonds n _ (each i below)

-- each number in the list of an atom numbers a bond of it
pub numbers_at-each : (bonds : List Edge) (n i : ℕ) → i < length (numbers_at bonds n) → IsNumberOf bonds n (get_or (numbers_at bonds n) i 0)
numbers_at-each bonds n i below =
    let is = numbers_from-each 1 bonds n i below in
    record { least = is.least; most = omega (arith, is.most); ends = is.ends }

-- each bond of an atom has its number in the list
pub numbers_at-all : (bonds : List Edge) (n b : ℕ) (d : Edge) → b < length bonds → touches n (get_or bonds b d) ≡ true
    → (i : ℕ) × (i < length (numbers_at bonds n)) × (get_or (numbers_at bonds n) i 0 ≡ b + 1)
numbers_at-all bonds n b d below ends = (
  degree (take b bonds) n,
  omega (arith, length-numbers_from 1 bonds n, degree_within bonds b n d below ends),
  omega (arith, get_or-numbers_from 1 bonds n b d below ends),
)
