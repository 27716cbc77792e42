-- From a place to the next structure, code by code.
--     none_there, is_put            what stands behind a code that has no structure, and one that has
--     passed_none, passed_more      codes that have none are passed
--     next_found, none_left         the next that has one
use Rattle.std.proofs.Common.{◌≡◌, ℕ, None, true, List, [], ◌∷◌, ◌++◌, refl, sym, subst, inl, inr}
use Rattle.mk_text.specs.Rising.{IsBelow, IsLeast, IsLeastFrom}
use Rattle.mk_text.proofs.ForCallers.{below_after, below_or_not, below_through, below_what_isnt, between_none}
use Rattle.mk_model.specs.Expansions.{IsExpansion}
use Rattle.mk_model.specs.Graphs.{GraphView}
use Rattle.mk_model.specs.Logic.{IsValid}
use Rattle.mk_model.specs.Queries.{QueryView}
use Rattle.mk_tables.specs.declared.raw.RawTable.{RawTable}
use Rattle.mk_choice.specs.Codes.{CodesLeft}
use Rattle.mk_expand.proofs.ForCallers.{one_graph}
use Rattle.mk_enum.specs.Enumerations.{IsStructure}
use Rattle.mk_enum.specs.Steps.{IsPutNext, PutsStructure}
use Rattle.mk_enum.specs.StructureTables.{IsTableOf}
use Rattle.mk_enum.specs.Texts.{structure_text}
use Rattle.mk_enum.specs.Writable.{IsWritable}

-- a code has one expansion, so it has no structure where that isn't writable
pub none_there : (query : QueryView) (code : List ℕ) (graph : GraphView) → IsExpansion query code graph → (IsWritable graph → ⊥) → IsStructure query code → ⊥
none_there query code graph expanded not is = not (subst IsWritable (sym (one_graph query code graph is.graph expanded is.expanded)) is.writable)

-- the text of a structure
pub is_put : (query : QueryView) (code : List ℕ) (graph : GraphView) (table : RawTable) (old new : List ℕ)
    → IsValid query code → IsExpansion query code graph → IsWritable graph → IsTableOf graph table → new ≡ old ++ structure_text code table
    → PutsStructure query code true old new
is_put query code graph table old new valid expanded writable drawn put = (
  structure_text code table,
  record { structure = record { graph = graph; valid = valid; expanded = expanded; writable = writable }; table = table; drawn = drawn; is = refl },
  put,
)

-- ---- codes that are passed

-- the second place isn't below the first, and between them no code has a structure
pub record HasPassed (query : QueryView) (from to : List ℕ) : Type 0 where
  pub up : (xs : List ℕ) → IsBelow xs from → IsBelow xs to
  pub none : (xs : List ℕ) → IsStructure query xs → (IsBelow xs from → ⊥) → IsBelow xs to → ⊥

module _ (query : QueryView) (from : List ℕ) where
  pub passed_none : HasPassed query from from
  passed_none = record { up = λ xs below. below; none = λ xs is not below. not below }

  module _ (to : List ℕ) (passed : HasPassed query from to) where
    -- what is below a place is below the place behind the next code
    over_next : (code : List ℕ) → IsLeast to (IsValid query) code → (xs : List ℕ) → IsBelow xs from → IsBelow xs (code ++ (0 ∷ []))
    over_next code least xs below = below_through xs code (code ++ (0 ∷ [])) (below_what_isnt xs code to (passed.up xs below) least.from) (below_after code)

    pub passed_more : (code : List ℕ) → IsLeast to (IsValid query) code → (IsStructure query code → ⊥) → HasPassed query from (code ++ (0 ∷ []))
    passed_more code least none_has = record {
      up = over_next code least;
      none = λ xs is not below. elim (below_or_not xs to) [
        | inl early ↦ passed.none xs is not early
        | inr late ↦
            let same : code ≡ xs = between_none code xs (least.least xs is.valid late) below in
            none_has (subst (IsStructure query) (sym same) is)
      ];
    }

    next_least : (code : List ℕ) → IsLeast to (IsValid query) code → IsStructure query code → IsLeast from (IsStructure query) code
    next_least code least is = record {
      has = is;
      from = λ below. least.from (passed.up code below);
      least = λ other its not below. elim (below_or_not other to) [
        | inl early ↦ passed.none other its not early
        | inr late ↦ least.least other its.valid late below
      ];
    }

    pub none_left : IsLeastFrom to (IsValid query) None → IsLeastFrom from (IsStructure query) None
    none_left none other is not = elim (below_or_not other to) [ inl early ↦ passed.none other is not early | inr late ↦ none other is.valid late ]

-- the next that has one
pub next_found : (query : QueryView) (left middle next : CodesLeft) (old now new code copy : List ℕ) → HasPassed query left.place middle.place → now ≡ old
    → IsLeast middle.place (IsValid query) code → next.place ≡ code ++ (0 ∷ []) → PutsStructure query code true now new → copy ≡ code
    → IsPutNext query left next old new copy
next_found query left middle next old now new code copy passed same least place put is =
    subst (IsPutNext query left next old new) (sym is) (record {
      least = next_least query left.place middle.place passed code least put.1.structure;
      place = place;
      text = put.0;
      is = put.1;
      put = subst (λ (t : List ℕ). new ≡ t ++ put.0) same put.2;
    })
