-- The lines of hits, one for each key.
--     HasParts query key               a key in its parts
--     IsHitLine query key line         the line of a key: its record, its choice and its map
--     AreHitLines query keys lines     the lines of keys, in order
--     stop_line stop                   the last line, by where the list stops
--     stop_of ended c                  where a list stops that is whole or not
--     stop_of_paced paced c            where a list stops that may pause
--     IsHitsText query keys stop text      a line for each key, and the last line
use Rattle.std.specs.Prelude.{◌≡◌, ℕ, Bool, List, [], ◌∷◌, ◌++◌, All, codes, decimal, if◌then◌else◌}
use Rattle.mk_model.specs.Codes.{IsCode}
use Rattle.mk_model.specs.Queries.{QueryView}
use Rattle.mk_search.specs.declared.paced.Stop.{Stop as PacedStop}
use Rattle.mk_search.specs.declared.paced.Stop.TheVariants as paced
use Rattle.mk_enum.specs.Texts.{numbers_text}
use Rattle.mk_effects.specs.declared.hit_lines.Stop.{Stop}
use Rattle.mk_effects.specs.declared.hit_lines.Stop.TheVariants as stop

-- ---- the line of a key

-- the record, the numbers of the choice, and those of the map
abbrev pub hit_line : ℕ → List ℕ → List ℕ → List ℕ
hit_line n code hit = codes "hit " ++ (decimal n ++ (codes " choice" ++ (numbers_text code ++ (codes " map" ++ (numbers_text hit ++ codes "\n")))))

-- A key in its parts: the number of a record, a structural code of the query, and a map behind it.
-- No code begins another, so these are its parts in one way.
pub record HasParts (query : QueryView) (key : List ℕ) : Type 0 where
  pub number : ℕ
  pub code : List ℕ
  pub hit : List ℕ
  pub is_code : IsCode query 0 code
  pub whole : key ≡ number ∷ (code ++ hit)

-- the line of a key
pub record IsHitLine (query : QueryView) (key line : List ℕ) : Type 0 where
  pub parts : HasParts query key
  pub spelt : line ≡ hit_line parts.number parts.code parts.hit

-- ---- several

-- each key has such parts
abbrev pub HaveParts : QueryView → List (List ℕ) → Type 0
HaveParts query keys = All (HasParts query) keys

-- the lines of keys, in order
abbrev pub AreHitLines : QueryView → List (List ℕ) → List ℕ → Type 0
AreHitLines query [] lines = lines ≡ []
AreHitLines query (key ∷ keys) lines = (line : List ℕ) × (others : List ℕ) × IsHitLine query key line × AreHitLines query keys others × (lines ≡ line ++ others)

-- ---- where they stop

-- the last line of an answer: `end`, or `more` or `paused` and the number under which the list goes
-- on
abbrev pub stop_line : Stop → List ℕ
stop_line stop.Ended = codes "end\n"
stop_line (stop.More c) = codes "more " ++ (decimal c ++ codes "\n")
stop_line (stop.Paused c) = codes "paused " ++ (decimal c ++ codes "\n")

-- a whole list ends, and behind any other there may be more, under the number c
abbrev pub stop_of : Bool → ℕ → Stop
stop_of ended c = if ended then stop.Ended else stop.More c

-- of a list that may pause: it is whole, or as long as asked for, or the budget is spent
abbrev pub stop_of_paced : PacedStop → ℕ → Stop
stop_of_paced paced.Full c = stop.More c
stop_of_paced paced.Ended c = stop.Ended
stop_of_paced paced.Paused c = stop.Paused c

-- the lines of the listed keys, and the line that says where they stop
pub record IsHitsText (query : QueryView) (keys : List (List ℕ)) (listed : Stop) (text : List ℕ) : Type 0 where
  pub lines : List ℕ
  pub are_lines : AreHitLines query keys lines
  pub whole : text ≡ lines ++ stop_line listed

-- ---- for the code

-- behind what is written stands the line of the key
pub record PutsLine (query : QueryView) (key old new : List ℕ) : Type 0 where
  pub line : List ℕ
  pub is : IsHitLine query key line
  pub put : new ≡ old ++ line
