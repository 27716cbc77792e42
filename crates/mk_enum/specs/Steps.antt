-- For the code: one step from a place to the next structure, and property lines of one value.
--     property_of thing                          the property that gives values of this thing
--     PutsStructure query code yes old new       where the code has a structure, its text is put
--                                                behind the old one
--     IsNextStructure query left new old text found    the least structure from the place on, whose
--                                                text is put behind the old one
use Rattle.std.specs.Prelude.{◌≡◌, ◌∷◌, ◌++◌, [], ℕ, Bool, true, false, List, Option, Some, None}
use Rattle.mk_text.specs.Rising.{IsLeast, IsLeastFrom}
use Rattle.mk_props.specs.declared.property.Pair.{Pair}
use Rattle.mk_props.specs.declared.property.Property.{Property}
use Rattle.mk_props.specs.declared.property.Property.TheVariants as kinds
use Rattle.mk_model.specs.Queries.{QueryView}
use Rattle.mk_choice.specs.Codes.{CodesLeft}
use Rattle.mk_enum.specs.declared.entries.Thing.{Thing}
use Rattle.mk_enum.specs.declared.entries.Thing.TheVariants as things
use Rattle.mk_enum.specs.Enumerations.{IsStructure, IsTextOf}

-- the property that gives values of this thing to atoms
abbrev pub property_of : Thing → List Pair → Property
property_of things.Charge pairs = kinds.Charge pairs
property_of things.Radical pairs = kinds.Radical pairs
property_of things.RingBonds pairs = kinds.RingBonds pairs
property_of things.Substitution pairs = kinds.Substitution pairs
property_of things.Unsaturation pairs = kinds.Unsaturation pairs

-- where the code has a structure, its text is put behind what stands there; else nothing is
abbrev pub PutsStructure : QueryView → List ℕ → Bool → List ℕ → List ℕ → Type 0
PutsStructure query code true old new = (text : List ℕ) × IsTextOf query code text × (new ≡ old ++ text)
PutsStructure query code false old new = (IsStructure query code → ⊥) × (new ≡ old)

-- the code is the least from the place on that has a structure; its text is put behind what stands
-- there, and the place is behind the code
pub record IsPutNext (query : QueryView) (left next : CodesLeft) (old new code : List ℕ) : Type 0 where
  pub least : IsLeast left.place (IsStructure query) code
  pub place : next.place ≡ code ++ (0 ∷ [])
  pub text : List ℕ
  pub is : IsTextOf query code text
  pub put : new ≡ old ++ text

-- the least structure from the place on is put, or there is none and nothing is
abbrev pub IsNextStructure : QueryView → CodesLeft → CodesLeft → List ℕ → List ℕ → Option (List ℕ) → Type 0
IsNextStructure query left next old new None = IsLeastFrom left.place (IsStructure query) None × (new ≡ old)
IsNextStructure query left next old new (Some code) = IsPutNext query left next old new code
