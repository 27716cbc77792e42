-- For the code: what it keeps of templates with slots left open, and an open code from a place on.
--     AreLoose template pieces loose             for each place how many bonds end there and lead to
--                                                nothing
--     OpenBegins query slots code                the code begins with an open choice at the slots
--     IsOpened query t code rest part one_ended  template t has become this part by the open choice
--                                                before the rest
--     AreOpenChosen query slots code rest pieces one_ended     the slots have become these pieces by it
use Rattle.std.specs.Prelude.{◌≡◌, ◌<◌, ◌+◌, ◌++◌, ℕ, Bool, List, length, slice_index}
use Rattle.mk_model.specs.declared.template.Slot.{Slot}
use Rattle.mk_model.specs.Pieces.{Fragment, Piece, room}
use Rattle.mk_model.specs.Queries.{QueryView, slots_of}
use Rattle.mk_model.specs.Templates.{TemplateView}
use Rattle.mk_expand.specs.OpenCodes.{IsOpenChoice, OpenChoice, open_spelling}
use Rattle.mk_expand.specs.OpenGraphs.{loose_ends, open_expansion, open_pieces, opens_one_ended}

-- for each place, from place 1 on, how many bonds end there and lead to nothing
pub record AreLoose (template : TemplateView) (pieces : List Piece) (loose : List ℕ) : Type 0 where
  pub size : length loose ≡ room template pieces (length template.atoms)
  pub each : (p : ℕ) → p < length loose → slice_index loose p ≡ loose_ends template pieces (p + 1)

-- the code begins with an open choice at the slots
pub record OpenBegins (query : QueryView) (slots : List Slot) (code : List ℕ) : Type 0 where
  pub choice : OpenChoice
  pub rest : List ℕ
  pub made : IsOpenChoice query slots choice
  pub spelt : open_spelling choice ++ rest ≡ code

-- template t has become this part by the open choice in front of the rest, and whether each slot that
-- it leaves open has one neighbour
pub record IsOpened (query : QueryView) (t : ℕ) (code rest : List ℕ) (part : Fragment) (one_ended : Bool) : Type 0 where
  pub choice : OpenChoice
  pub made : IsOpenChoice query (slots_of query t) choice
  pub spelt : open_spelling choice ++ rest ≡ code
  pub is : part ≡ open_expansion query t choice
  pub ends : one_ended ≡ opens_one_ended query (slots_of query t) choice

-- the slots have become these pieces by the open choice in front of the rest, and whether each slot
-- that it leaves open has one neighbour
pub record AreOpenChosen (query : QueryView) (slots : List Slot) (code rest : List ℕ) (pieces : List Piece) (one_ended : Bool) : Type 0 where
  pub choice : OpenChoice
  pub made : IsOpenChoice query slots choice
  pub spelt : open_spelling choice ++ rest ≡ code
  pub are : pieces ≡ open_pieces query slots choice
  pub ends : one_ended ≡ opens_one_ended query slots choice
