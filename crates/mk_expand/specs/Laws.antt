-- Codes as open codes.
--     CodesAreOpenCodes      a choice at the slots of a template is an open choice that leaves none of
--                            them open, has the same numbers, and makes the same of the template
use Rattle.std.specs.Prelude.{◌≡◌, ◌<◌, ℕ, length}
use Rattle.mk_model.specs.Codes.{Choice, IsChoice, spelling}
use Rattle.mk_model.specs.Expansions.{expansion}
use Rattle.mk_model.specs.Queries.{QueryView, slots_of}
use Rattle.mk_model.specs.QueryFits.{QueryFits}
use Rattle.mk_expand.specs.OpenCodes.{IsOpenChoice, decided, open_spelling}
use Rattle.mk_expand.specs.OpenGraphs.{open_expansion}

-- A choice at the slots of a template, as an open choice that leaves none of them open: it is one at
-- these slots, it has the same numbers, and what the template becomes by it is its expansion.
abbrev pub CodesAreOpenCodes : Type 0
CodesAreOpenCodes =
    (query : QueryView) (t : ℕ) (choice : Choice) → QueryFits query → t < length query.templates → IsChoice query (slots_of query t) choice
    → IsOpenChoice query (slots_of query t) (decided choice) × (open_spelling (decided choice) ≡ spelling choice)
    × (open_expansion query t (decided choice) ≡ expansion query t choice)
