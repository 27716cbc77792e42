-- For one law alone: codes, valid codes, expansions and keys as they were said when a site bore one
-- label. Each text is the one that now speaks of several labels, with the members of the one group
-- in place of the members of all, and a site counted as filled where its number is a member's.
--     HasSingleLabels query           each site of the query bears one label
--     label_of slot                   the one label of a site
--     members_by_label, member_by_label, is_filled_by_label, bears_by_label, draws_by_label
--                                     the words of that label
--     IsChoiceByLabel, IsCodeByLabel  structural codes
--     standing_by_label, sites_by_label, filled_by_label, IsValidByLabel    valid codes
--     left_open_by_label, pieces_by_label, expansion_by_label, IsExpansionByLabel    expansions
--     IsOccurrenceByLabel, IsKeyByLabel    keys
--     SingleLabelsAsBefore            where each site bears one label, all of this is what it was
use Rattle.std.specs.Prelude.{◌≡◌, ◌≤◌, ◌+◌, ◌-◌, ◌==◌, ◌&&◌, ◌↔◌, nat_le, ℕ, Bool, false, List, [], ◌∷◌, ◌++◌, All, Contains, count_by, length, map, slice_index, if◌then◌else◌}
use Rattle.mk_model.specs.declared.graph.GraphBond.{GraphBond}
use Rattle.mk_model.specs.declared.template.QueryBond.{QueryBond}
use Rattle.mk_model.specs.declared.template.Slot.{Slot}
use Rattle.mk_model.specs.declared.template.Slot.TheVariants.{Link, Site}
use Rattle.mk_model.specs.Codes.{Choice, IsCode, spelling}
use Rattle.mk_model.specs.Codes.Choice.{done, repeated, unfilled, filled}
use Rattle.mk_model.specs.Expansions.{IsExpansion, joined, template_of, unmarked}
use Rattle.mk_model.specs.Graphs.{GraphView, IsGraph}
use Rattle.mk_model.specs.Hits.{IsHit}
use Rattle.mk_model.specs.Keys.{IsAmong, IsKey}
use Rattle.mk_model.specs.Labels.{asks_rest_hydrogens}
use Rattle.mk_model.specs.Logic.{IsAllowed, IsValid, Standing}
use Rattle.mk_model.specs.Molecules.{Molecule}
use Rattle.mk_model.specs.Pieces.{Fragment, Piece}
use Rattle.mk_model.specs.Pieces.Piece.{Copies, Member, Hydrogens, Nothing}
use Rattle.mk_model.specs.Queries.{QueryView, members_of, slots_of}
use Rattle.mk_model.specs.QueryFits.{QueryFits}
use Rattle.mk_model.specs.Templates.{neighbour_count}

-- ---- one label

-- a site bears one label; nothing is asked of a link here
abbrev pub HasOneLabel : Slot → Type 0
HasOneLabel (Link atom most from to) = Unit {0}
HasOneLabel (Site atom groups first second) = length groups ≡ 1

-- each site of the query bears one label
abbrev pub HasSingleLabels : QueryView → Type 0
HasSingleLabels query = All (λ template. All HasOneLabel template.slots) query.templates

-- the first label of a site, which is its one label
abbrev pub label_of : Slot → ℕ
label_of (Link atom most from to) = 0
label_of (Site atom groups first second) = slice_index groups 0

-- ---- the words

-- the members of a site are those of its group, in order
abbrev pub members_by_label : QueryView → Slot → List ℕ
members_by_label query (Link atom most from to) = []
members_by_label query (Site atom groups first second) = members_of query (label_of (Site atom groups first second))

-- the template that is the k-th member of a site
abbrev pub member_by_label : QueryView → Slot → ℕ → ℕ
member_by_label query slot k = slice_index (members_by_label query slot) (k - 1)

-- a number fills a site where it is one of a member's
abbrev pub is_filled_by_label : QueryView → Slot → ℕ → Bool
is_filled_by_label query slot k = nat_le k (length (members_by_label query slot))

-- a site bears the label of its group
abbrev pub bears_by_label : Slot → ℕ → Bool
bears_by_label (Link atom most from to) g = false
bears_by_label (Site atom groups first second) g = label_of (Site atom groups first second) == g

-- an unfilled site is drawn with hydrogens where its group says so
abbrev pub draws_by_label : QueryView → Slot → Bool
draws_by_label query (Link atom most from to) = false
draws_by_label query (Site atom groups first second) = asks_rest_hydrogens query (label_of (Site atom groups first second))

-- ---- structural codes

-- A choice is one at these slots: a link stands 1 to `most` times; a site is filled by one of its
-- group's members, or unfilled, which has the number behind theirs.
abbrev pub IsChoiceByLabel : QueryView → List Slot → Choice → Type 0
IsChoiceByLabel query [] done = Unit {0}
IsChoiceByLabel query [] (repeated n others) = ⊥
IsChoiceByLabel query [] (unfilled n others) = ⊥
IsChoiceByLabel query [] (filled k inside others) = ⊥
IsChoiceByLabel query (Link atom most from to ∷ slots) done = ⊥
IsChoiceByLabel query (Link atom most from to ∷ slots) (repeated n others) = (1 ≤ n) × (n ≤ most) × IsChoiceByLabel query slots others
IsChoiceByLabel query (Link atom most from to ∷ slots) (unfilled n others) = ⊥
IsChoiceByLabel query (Link atom most from to ∷ slots) (filled k inside others) = ⊥
IsChoiceByLabel query (Site atom groups first second ∷ slots) done = ⊥
IsChoiceByLabel query (Site atom groups first second ∷ slots) (repeated n others) = ⊥
IsChoiceByLabel query (Site atom groups first second ∷ slots) (unfilled n others) =
    (n ≡ length (members_by_label query (Site atom groups first second)) + 1) × IsChoiceByLabel query slots others
IsChoiceByLabel query (Site atom groups first second ∷ slots) (filled k inside others) =
    (1 ≤ k) × (k ≤ length (members_by_label query (Site atom groups first second)))
    × IsChoiceByLabel query (slots_of query (member_by_label query (Site atom groups first second) k)) inside × IsChoiceByLabel query slots others

-- the numbers spell a choice at the slots of template t
pub record IsCodeByLabel (query : QueryView) (t : ℕ) (code : List ℕ) : Type 0 where
  pub choice : Choice
  pub made : IsChoiceByLabel query (slots_of query t) choice
  pub spelt : spelling choice ≡ code

-- ---- valid codes

-- the sites that stand in the templates chosen; those of a template that is chosen several times
-- stand each time
abbrev pub standing_by_label : QueryView → List Slot → Choice → List Standing
standing_by_label query slots done = []
standing_by_label query [] (repeated n others) = []
standing_by_label query [] (unfilled n others) = []
standing_by_label query [] (filled k inside others) = []
standing_by_label query (slot ∷ slots) (repeated n others) = standing_by_label query slots others
standing_by_label query (slot ∷ slots) (unfilled n others) = record { site = slot; number = n } ∷ standing_by_label query slots others
standing_by_label query (slot ∷ slots) (filled k inside others) =
    record { site = slot; number = k } ∷ (standing_by_label query (slots_of query (member_by_label query slot k)) inside ++ standing_by_label query slots others)

-- how many of the sites bear the label of group g
abbrev pub sites_by_label : List Standing → ℕ → ℕ
sites_by_label standing g = count_by (λ one. bears_by_label one.site g) standing

-- how many of the sites that bear the label of group g are filled
abbrev pub filled_by_label : QueryView → List Standing → ℕ → ℕ
filled_by_label query standing g = count_by (λ one. bears_by_label one.site g && is_filled_by_label query one.site one.number) standing

-- a structural code of the root with which each group is filled as often as its logic allows
pub record IsValidByLabel (query : QueryView) (code : List ℕ) : Type 0 where
  pub choice : Choice
  pub made : IsChoiceByLabel query (slots_of query 0) choice
  pub spelt : spelling choice ≡ code
  pub logic : let standing = standing_by_label query (slots_of query 0) choice in IsAllowed query (sites_by_label standing) (filled_by_label query standing)

-- ---- expansions

-- an unfilled site becomes a hydrogen for each of its neighbours where hydrogens are drawn there,
-- else nothing
abbrev pub left_open_by_label : QueryView → Slot → Piece
left_open_by_label query site = if draws_by_label query site then Hydrogens (neighbour_count site) else Nothing

-- What the slots become by a choice, in order: a link copies, an unfilled site hydrogens or
-- nothing, and a filled one what its member becomes by the choice inside.
unfoldable pub pieces_by_label : QueryView → List Slot → Choice → List Piece
pieces_by_label query (slot ∷ slots) (repeated n others) = Copies n ∷ pieces_by_label query slots others
pieces_by_label query (Site atom groups first second ∷ slots) (unfilled n others) =
    left_open_by_label query (Site atom groups first second) ∷ pieces_by_label query slots others
pieces_by_label query (Site atom groups first second ∷ slots) (filled k inside others) =
    let t = member_by_label query (Site atom groups first second) k in
    Member (joined (template_of query t) (pieces_by_label query (slots_of query t) inside)) ∷ pieces_by_label query slots others
pieces_by_label query slots choice = []

-- what the root becomes by a choice at its slots
unfoldable pub expansion_by_label : QueryView → Choice → Fragment
expansion_by_label query choice = joined (template_of query 0) (pieces_by_label query (slots_of query 0) choice)

-- the graph has the atoms and the bonds that the root becomes by the choice that the code spells
pub record IsExpansionByLabel (query : QueryView) (code : List ℕ) (graph : GraphView) : Type 0 where
  pub choice : Choice
  pub made : IsChoiceByLabel query (slots_of query 0) choice
  pub spelt : spelling choice ≡ code
  pub kept : IsGraph graph
  pub atoms : graph.atoms ≡ (expansion_by_label query choice).atoms
  pub each : (bond : GraphBond) → Contains graph.bonds bond → Contains (expansion_by_label query choice).bonds (unmarked bond)
  pub all : (bond : QueryBond) → Contains (expansion_by_label query choice).bonds bond → Contains (map unmarked graph.bonds) bond

-- ---- keys

-- the numbers are those of a valid code and, behind them, those of a hit of its expansion in the
-- molecule
pub record IsOccurrenceByLabel (query : QueryView) (mol : Molecule) (numbers : List ℕ) : Type 0 where
  pub code : List ℕ
  pub hit : List ℕ
  pub graph : GraphView
  pub valid : IsValidByLabel query code
  pub expanded : IsExpansionByLabel query code graph
  pub hits : IsHit graph mol hit
  pub whole : numbers ≡ code ++ hit

-- the number of a held molecule, and behind it an occurrence of the query in that molecule
pub record IsKeyByLabel (Held : ℕ → Molecule → Type 0) (query : QueryView) (key : List ℕ) : Type 0 where
  pub number : ℕ
  pub mol : Molecule
  pub numbers : List ℕ
  pub held : Held number mol
  pub occurs : IsOccurrenceByLabel query mol numbers
  pub whole : key ≡ number ∷ numbers

-- ---- the law

-- the structural codes, valid codes, expansions and keys of a query are those of the former texts
pub record IsAsBefore (query : QueryView) : Type 0 where
  pub codes : (t : ℕ) (code : List ℕ) → IsCode query t code ↔ IsCodeByLabel query t code
  pub valid : (code : List ℕ) → IsValid query code ↔ IsValidByLabel query code
  pub expansions : (code : List ℕ) (graph : GraphView) → IsExpansion query code graph ↔ IsExpansionByLabel query code graph
  pub keys : (molecules : List (ℕ × Molecule)) (key : List ℕ) → IsKey (IsAmong molecules) query key ↔ IsKeyByLabel (IsAmong molecules) query key

-- where each site of a query bears one label, its codes, valid codes, expansions and keys are what
-- they were: so a place that was kept for it means what it meant
abbrev pub SingleLabelsAsBefore : Type 0
SingleLabelsAsBefore = (query : QueryView) → QueryFits query → HasSingleLabels query → IsAsBefore query
