-- Laws over runs.
--     TwoScripts        two scripts one after the other are one script
--     RunsKeepReading   tables that a run leaves read, where those before it did
--     OneEffect         over told files an order without a budget comes to at most one effect
--     OneRun            so a run over told files without budgets has at most one outcome
use Rattle.std.specs.Prelude.{◌≡◌, ℕ, ◌≤◌, List, [], ◌∷◌, ◌++◌, length, Option, Some}
use Rattle.std.specs.List.{AllByRecursion}
use Rattle.mk_outside.specs.declared.tables.Tables.{Tables}
use Rattle.mk_session.specs.declared.status.Status.{Status}
use Rattle.mk_session.specs.declared.status.Status.TheVariants as status
use Rattle.mk_found.specs.Effects.{Effect}
use Rattle.mk_found.specs.Files.{Look}
use Rattle.mk_session.specs.Outcomes.{IsAllDone}
use Rattle.mk_session.specs.Orders.{Asked, HasNoBudget, Order, asked, asked_of_script, orders_asked, script_bytes}
use Rattle.mk_session.specs.Run.{IsRun}
use Rattle.mk_session.specs.Step.{Comes}
use Rattle.mk_kept.specs.StoredRows.{AllRead, CanGoOn}

-- how two runs end as one: refused where one of them was
abbrev pub joined : Status → Status → Status
joined status.Refused second = status.Refused
joined _ second = second

-- A script that ends with LF, and another. Where all commands of the first are done and the tables
-- between them read, the two scripts in one add what they add, leave the tables that the second
-- leaves, and end as both.
abbrev pub TwoScripts : Type 0
TwoScripts = (files : Option Look) (t t1 t2 : Tables) (first second a b : List ℕ) (ends1 ends2 : Status)
    → IsRun files t (asked_of_script (first ++ 10 ∷ [])) a t1 ends1 → IsAllDone ends1 → AllRead t1
    → IsRun files t1 (asked_of_script second) b t2 ends2
    → length ((first ++ 10 ∷ []) ++ second) ≤ script_bytes
    → IsRun files t (asked_of_script ((first ++ 10 ∷ []) ++ second)) (a ++ b) t2 (joined ends1 ends2)

-- A run leaves tables that read, where those before it did and both next numbers were at least 1;
-- then these still are.
abbrev pub RunsKeepReading : Type 0
RunsKeepReading = (files : Option Look) (t left : Tables) (words : List (List ℕ)) (input added : List ℕ) (ends : Status)
    → IsRun files t (asked words input) added left ends → CanGoOn t → CanGoOn left

-- over told files an order without a budget comes to at most one effect
abbrev pub OneEffect : Type 0
OneEffect = (look : Look) (t : Tables) (order : Order) (a b : Effect) → HasNoBudget order → Comes (Some look) t order a → Comes (Some look) t order b → a ≡ b

-- over told files a run in which no order has a budget adds one text, leaves one value of the tables,
-- and ends with one status
abbrev pub OneRun : Type 0
OneRun = (look : Look) (t : Tables) (asked : Asked) (a b : List ℕ) (left other : Tables) (ends ends' : Status)
    → AllByRecursion HasNoBudget (orders_asked asked)
    → IsRun (Some look) t asked a left ends → IsRun (Some look) t asked b other ends' → (a ≡ b) × (left ≡ other) × (ends ≡ ends')
