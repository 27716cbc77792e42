-- One choice alone: a slot of the root is decided and all others are left open. And where the slots of
-- the root stand in a code.
--     root_slot query s                the s-th slot of the root, from 0 on
--     alone_code s n k                 n at slot s, 0 for each slot before it, and so many 0 behind
--     IsAloneCode query s n code       the code decides n at slot s of the root, and nothing else
--     HoldsNoneAlone query mol s n     the graph of such a code has no embedding in the molecule
--     IsPlaceOf query s front          the front chooses at the first s slots of the root
--     ArePlaces query code places      for each slot of the root the place of its number in the code
--     AloneFrontsHoldNone              where a choice alone has none, no front that ends with it holds
--                                      an occurrence
--     SlotsHoldNone                    where no choice at a slot has one alone, there is no occurrence
use Rattle.std.specs.Prelude.{◌≡◌, ◌≤◌, ◌<◌, ℕ, List, [], ◌∷◌, ◌++◌, length, replicate, slice_index, slice_index_or, take}
use Rattle.mk_model.specs.declared.template.Slot.{Slot}
use Rattle.mk_model.specs.declared.template.Slot.TheVariants.{Link}
use Rattle.mk_model.specs.Codes.{Choice, IsChoice, spelling}
use Rattle.mk_model.specs.Graphs.{GraphView}
use Rattle.mk_model.specs.Hits.{HasNoEmbedding}
use Rattle.mk_model.specs.Molecules.{Molecule}
use Rattle.mk_model.specs.Nodes.{BeginsCode}
use Rattle.mk_model.specs.OpenSlots.{most_at}
use Rattle.mk_model.specs.Queries.{QueryView, slots_of}
use Rattle.mk_model.specs.QueryFits.{QueryFits}
use Rattle.mk_open_codes.specs.Fronts.{HoldsNone}
use Rattle.mk_expand.specs.OpenCodes.{IsOpenCode}
use Rattle.mk_expand.specs.OpenGraphs.{IsOpenGraph}

-- ---- a choice alone

-- the s-th slot of the root, from 0 on; where there is none, a link at which nothing can be chosen
abbrev pub root_slot : QueryView → ℕ → Slot
root_slot query s = slice_index_or (slots_of query 0) s (Link 0 0 0 0)

-- 0 for each of s slots, the number n, and so many 0 behind it
abbrev pub alone_code : ℕ → ℕ → ℕ → List ℕ
alone_code s n k = replicate s 0 ++ n ∷ replicate k 0

-- the code is open, and decides the number n at slot s of the root alone: the other slots of the root
-- are left open, and so are those of a member that n puts in
pub record IsAloneCode (query : QueryView) (s n : ℕ) (code : List ℕ) : Type 0 where
  pub left : ℕ
  pub spelt : code ≡ alone_code s n left
  pub is : IsOpenCode query 0 code

-- the graph of the code that decides n alone at slot s of the root has no embedding in the molecule
pub record HoldsNoneAlone (query : QueryView) (mol : Molecule) (s n : ℕ) : Type 0 where
  pub code : List ℕ
  pub part : GraphView
  pub is : IsAloneCode query s n code
  pub graph : IsOpenGraph query code part
  pub none : HasNoEmbedding part mol

-- ---- places of slots

-- the numbers spell a choice at the first s slots of the root, so that the number for slot s stands
-- next
pub record IsPlaceOf (query : QueryView) (s : ℕ) (front : List ℕ) : Type 0 where
  pub choice : Choice
  pub made : IsChoice query (take s (slots_of query 0)) choice
  pub spelt : spelling choice ≡ front

-- for each slot of the root the place, from 0 on, at which its number stands in the code
pub record ArePlaces (query : QueryView) (code places : List ℕ) : Type 0 where
  pub size : length places ≡ length (slots_of query 0)
  pub each : (s : ℕ) → s < length places → (slice_index places s < length code) × IsPlaceOf query s (take (slice_index places s) code)

-- ---- laws

-- Where the graph of a code that decides n alone at slot s has no embedding in a molecule, no
-- occurrence of the query there begins with numbers that choose at the slots before s and go on with n.
abbrev pub AloneFrontsHoldNone : Type 0
AloneFrontsHoldNone =
    (query : QueryView) (mol : Molecule) (s n : ℕ) (numbers : List ℕ) → QueryFits query → IsPlaceOf query s numbers
    → BeginsCode query (numbers ++ n ∷ []) → HoldsNoneAlone query mol s n → HoldsNone query mol (numbers ++ n ∷ [])

-- where at a slot of the root each number that may stand there has no embedding alone, the query has no
-- occurrence in the molecule
abbrev pub SlotsHoldNone : Type 0
SlotsHoldNone =
    (query : QueryView) (mol : Molecule) (s : ℕ) → QueryFits query → s < length (slots_of query 0)
    → ((n : ℕ) → 1 ≤ n → n ≤ most_at query (root_slot query s) → HoldsNoneAlone query mol s n) → HoldsNone query mol []
