-- For the code: codes with which numbers begin.
--     IsExpanded query t code rest part     template t has become this part by the choice before the
--                                           rest
use Rattle.std.specs.Prelude.{◌≡◌, ◌++◌, ℕ, List}
use Rattle.mk_model.specs.Codes.{Choice, IsChoice, spelling}
use Rattle.mk_model.specs.Expansions.{expansion}
use Rattle.mk_model.specs.Pieces.{Fragment}
use Rattle.mk_model.specs.Queries.{QueryView, slots_of}

-- template t has become this part by the choice in front of the rest
pub record IsExpanded (query : QueryView) (t : ℕ) (code rest : List ℕ) (part : Fragment) : Type 0 where
  pub choice : Choice
  pub made : IsChoice query (slots_of query t) choice
  pub spelt : spelling choice ++ rest ≡ code
  pub is : part ≡ expansion query t choice
