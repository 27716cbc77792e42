-- What a statement within a transaction leaves of the last commit.
use Rattle.std.proofs.Common.{◌≡◌, ◌⊎◌, inl, inr, ℕ, List, [], Bool, true, false, cond, Option, Some, None, Ok, Err, Result, IfOk, IfErr, IsErr, IsTrue, IsSome, refl, sym, ap, subst, ◌∙◌}
use Rattle.std.proofs.Common.{◌≤◌, arith}
use Rattle.sqlite_value.specs.Order.{Row}
use Rattle.sqlite_trees.specs.Tree.{Trees}
use Rattle.sqlite_trees.specs.View.{doubt}
use Rattle.sqlite_schema.specs.declared.command.Returning.{Returning}
use Rattle.sqlite.specs.declared.error.Error.{Error}
use Rattle.sqlite.specs.Effect.{Database}
use Rattle.sqlite.specs.Clock.{timed}
use Rattle.mk_sqlite.specs.Steps.{Inside}
use Rattle.sqlite.specs.State.{State, HasCleanDisk, KeepsCommit, Shows, IsUnchanged, IsRolledBack, Fails, IsNotRun}
use Rattle.sqlite.specs.State.{Executes, ExecutesInside, Shown, ShowsRows, FailsToQuery, FailsToShow, IsTooLate, RunsCommand}

unchanged_keeps : (old new : State) → IsUnchanged old new → KeepsCommit old new
unchanged_keeps old new same = record { was_open = λ _. same.0.was_open; committed = λ _. same.0.committed_is }

rolled_keeps : (old new : State) → IsRolledBack old new → KeepsCommit old new
rolled_keeps old new undone = record { was_open = undone.was_open; committed = λ opens. (undone.undone opens).1 }

fails_keeps : (old new : State) (U : Type 0) (e : Error) → Fails old new U e → KeepsCommit old new
fails_keeps old new U e h = rolled_keeps old new h.3

not_run_keeps : (sql : List ℕ) (params : Row) (old new : State) (e : Error) → IsNotRun old new sql params e → KeepsCommit old new
unfolding IsNotRun
not_run_keeps sql params old new e (inl h) = unchanged_keeps old new h.1
not_run_keeps sql params old new e (inr h) = fails_keeps old new _ e h

shown_keeps : (old new : State) (now : Database) (mode : Bool) → Shows old new now old.committed mode → KeepsCommit old new
shown_keeps old new now mode h = record { was_open = λ _. h.was_open; committed = λ _. h.committed_is }

-- ---- a write

-- a statement commits nothing
pub executed_keeps : (sql : List ℕ) (params : Row) (old new : State) (r : Result ℕ Error) → ExecutesInside 0 sql params old new r → KeepsCommit old new
executed_keeps sql params old new (Ok count) h = shown_keeps old new _ _ h.1
executed_keeps sql params old new (Err e) (inl h) = elim h.1 [ inl same ↦ unchanged_keeps old new same | inr undone ↦ rolled_keeps old new undone ]
executed_keeps sql params old new (Err e) (inr h) = unchanged_keeps old new h.2

-- a statement that went well finds the transaction open
pub executed_inside : (sql : List ℕ) (params : Row) (old new : State) (count : ℕ) → ExecutesInside 0 sql params old new (Ok count) → IsTrue new.in_transaction × Executes sql params old new (Ok count)
executed_inside sql params old new count h = (h.1.mode, h.0)

-- ---- a query

rows_keep : (old new : State) (sql : List ℕ) (c : _) (params : Row) (rows : List Row) (returning : Option Returning) → IsTrue old.in_transaction → ShowsRows old new sql c params rows returning
    → KeepsCommit old new × IsTrue new.in_transaction
rows_keep old new sql c params rows None inside h = (unchanged_keeps old new h.3, h.3.0.mode ∙ inside)
rows_keep old new sql c params rows (Some what) inside h =
    let shown = h.1.shown in
    (record { was_open = λ _. shown.was_open; committed = λ _. shown.committed_is ∙ rw inside }, shown.mode ∙ inside)

-- a query that went well commits nothing and leaves the transaction open
pub shown_inside : (sql : List ℕ) (params : Row) (old new : State) (rows : List Row) → IsTrue old.in_transaction → Shown sql params old new rows → KeepsCommit old new × IsTrue new.in_transaction
unfolding Shown
shown_inside sql params old new rows inside h = rows_keep old new sql h.0 _ rows h.0.returning inside h.2

command_keeps : (old new : State) (sql : List ℕ) (c : _) (params : Row) (e : Error) → RunsCommand old new sql c params (Err e) → KeepsCommit old new
command_keeps old new sql c params e (inl h) = unchanged_keeps old new h.1
command_keeps old new sql c params e (inr h) = fails_keeps old new _ e h

to_show_keeps : (old new : State) (sql : List ℕ) (c : _) (params : Row) (e : Error) (returning : Option Returning) → FailsToShow old new sql c params e returning → KeepsCommit old new
to_show_keeps old new sql c params e None h = unchanged_keeps old new h.3
to_show_keeps old new sql c params e (Some what) h = command_keeps old new sql c params e h

-- a query that failed commits nothing
pub refused_keeps : (sql : List ℕ) (params : Row) (old new : State) (e : Error) → FailsToQuery sql params old new e ⊎ IsTooLate sql params old new e → KeepsCommit old new
unfolding FailsToQuery
refused_keeps sql params old new e (inl (inl h)) = not_run_keeps sql params old new e h
refused_keeps sql params old new e (inl (inr h)) = to_show_keeps old new sql h.0 _ e h.0.returning h.2
refused_keeps sql params old new e (inr h) = unchanged_keeps old new h.5

-- neither of two steps commits anything
pub keeps_then : (a b c : State) → KeepsCommit a b → KeepsCommit b c → KeepsCommit a c
keeps_then a b c p q = record { was_open = λ opens. p.was_open (q.was_open opens); committed = λ opens. q.committed opens ∙ p.committed (q.was_open opens) }

-- ---- steps

mapped : {A E : Type 0} (r : Result A E) (P Q : A → Type 0) → ((a : A) → P a → Q a) → IfOk r P → IfOk r Q
mapped (Ok a) P Q f h = f a h
mapped (Err e) P Q f h = tt

-- a step of which more is said
pub inside_as : {A E : Type 0} (old new : State) (r : Result A E) (P Q : A → Type 0) → ((a : A) → P a → Q a) → Inside old new r P → Inside old new r Q
inside_as old new r P Q f h clean inside = let it = h clean inside in (it.0, mapped r _ _ (λ a p. (p.0, f a p.1)) it.1)

-- a step that went well, and of which this holds
abbrev pub Went : State → State → Type 0 → Type 0
Went old new X = HasCleanDisk new → IsTrue old.in_transaction → KeepsCommit old new × (IsTrue new.in_transaction × X)

-- two steps, one after the other
pub inside_both : {B F : Type 0} (a b c : State) (r : Result B F) (X : Type 0) (Q R : B → Type 0) → doubt b.is_clean ≤ doubt c.is_clean → (X → (y : B) → Q y → R y) → Went a b X → Inside b c r Q →
    Inside a c r R
inside_both a b c r X Q R falls f first after clean inside =
    let one = first (omega (arith, falls, clean)) inside in
    let two = after clean one.1.0 in
    (keeps_then a b c one.0 two.0, mapped r _ _ (λ y q. (q.0, f one.1.1 y q.1)) two.1)

-- both went well
pub went_both : (a b c : State) (X Y Z : Type 0) → doubt b.is_clean ≤ doubt c.is_clean → (X → Y → Z) → Went a b X → Went b c Y → Went a c Z
went_both a b c X Y Z falls f first after clean inside =
    let one = first (omega (arith, falls, clean)) inside in
    let two = after clean one.1.0 in
    (keeps_then a b c one.0 two.0, (two.1.0, f one.1.1 two.1.1))

-- a step that failed, handed on
pub inside_stopped : {A B E F : Type 0} (old new : State) (x : Result A E) (r : Result B F) (P : A → Type 0) (Q : B → Type 0) → IsErr r → Inside old new x P → Inside old new r Q
inside_stopped {A} {B} {E} {F} old new x r P Q stopped h clean inside = ((h clean inside).0, none r stopped)
  where
    none : (r : Result B F) → IsErr r → IfOk r (λ a. IsTrue new.in_transaction × Q a)
    none (Ok b) h = cc
    none (Err f) h = tt

-- what is made of an answer, with no step
pub inside_with : {A B F : Type 0} (E : Type 0) (old new : State) (x : A) (r : Result B F) (P : A → Type 0) (R Q : B → Type 0) → IfOk r R → ((b : B) → P x → R b → Q b) → Inside {A = A} {E = E}
    old new (Ok x) P → Inside old new r Q
inside_with E old new x r P R Q read f h clean inside = let it = h clean inside in (it.0, mapped r _ _ (λ b h. (it.1.0, f b it.1.1 h)) read)

-- the second step failed
pub both_stopped : {A B E F : Type 0} (a b c : State) (x : Result A E) (r : Result B F) (X : Type 0) (P : A → Type 0) (Q : B → Type 0) → doubt b.is_clean ≤ doubt c.is_clean → IsErr r → Went a b X
    → Inside b c x P → Inside a c r Q
both_stopped a b c x r X P Q falls stopped first after =
    inside_both a b c r X (λ y. ⊥) Q falls (λ it y none. absurd none) first (inside_stopped b c x r P (λ y. ⊥) stopped after)
