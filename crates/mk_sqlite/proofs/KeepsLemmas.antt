-- What a transaction leaves of the told tables.
use Rattle.std.proofs.Common.{inl, inr, ◌≡◌, ◌≤◌, ◌&&◌, ℕ, List, Bool, true, false, not, cond, Option, Some, None, Ok, Err, Result, IfOk, IfSome, IsOk, IsTrue, refl, sym, ap, subst, ◌∙◌, arith, eqb}
use Rattle.std.proofs.lemmas.Bool.{and_parts, and_from, eqb-true, not-true, eq-eqb}
use Rattle.sqlite_trees.specs.Tree.{Trees}
use Rattle.sqlite_trees.specs.View.{doubt}
use Rattle.sqlite_trees.specs.declared.store.Store.{Ghosts}
use Rattle.sqlite.specs.Effect.{Database, IsDatabase}
use Rattle.sqlite.specs.State.{State, HasCleanDisk, IsLive, Survives}
use Rattle.sqlite.specs.Held.{Held, state}
use Rattle.sqlite.proofs.StateLemmas.{survives_then}
use Rattle.mk_outside.specs.declared.tables.Tables.{Tables}
use Rattle.mk_outside.specs.declared.tables.Change.{Change}
use Rattle.mk_outside.specs.declared.answers.KeepFail.{KeepFail}
use Rattle.mk_outside.specs.Tables.{after_batch}
use Rattle.mk_outside.specs.Told.{committed}
use Rattle.mk_sqlite.specs.Layout.{Stage, all_tables}
use Rattle.mk_sqlite.specs.Told.{tables_of}
use Rattle.mk_sqlite.specs.Steps.{IsAt, IsWhole, Inside, Leaves, Ends}
use Rattle.mk_sqlite.specs.Keeps.{IsSoundState, is_sound, told_in, StandsFor, StaysSound, OnCrash, LeavesNoMore}
use Rattle.mk_sqlite.specs.Keeper.{FaultLeaves}
use Rattle.mk_sqlite.proofs.ToldLemmas.{told_is, is_told}

-- by the value, where there is one
pub if_some : {A : Type 0} (o : Option A) (P : A → Type 0) → ((a : A) → o ≡ Some a → P a) → IfSome o P
if_some None P f = tt
if_some (Some a) P f = f a refl

-- by the answer, where there is one
pub if_ok : {A E : Type 0} (r : Result A E) (P : A → Type 0) → ((a : A) → r ≡ Ok a → P a) → IfOk r P
if_ok (Ok a) P f = f a refl
if_ok (Err e) P f = tt

-- the tables as they are changed, or after a failure as before
abbrev pub left_by : {A E : Type 0} → Result A E → (Tables → Tables) → Tables → Tables
left_by (Ok a) f t = f t
left_by (Err e) f t = t

-- where nothing is changed the tables are as before
pub left_same : {A E : Type 0} (r : Result A E) (t : Tables) → left_by r (λ t. t) t ≡ t
left_same (Ok a) t = refl
left_same (Err e) t = refl

-- where a batch is made the tables are those that it leaves
pub left_committed : {A E : Type 0} (batch : List Change) (r : Result A E) (t : Tables) → left_by r (after_batch batch) t ≡ committed batch t r
left_committed batch (Ok a) t = refl
left_committed batch (Err e) t = refl

-- of the same value more is said
pub if_some_as : {A : Type 0} (o : Option A) (P Q : A → Type 0) → ((a : A) → P a → Q a) → IfSome o P → IfSome o Q
if_some_as None P Q f h = tt
if_some_as (Some a) P Q f h = f a h

-- a connection that passes the test is sound
pub sound_is : (s : State) → is_sound s ≡ true → IsSoundState s
sound_is s h =
    let p = and_parts _ _ h in
    let q = and_parts _ _ p.1 in
    record { clean = eqb-true _ _ p.0; is_open = q.0; idle = not-true _ q.1 }

-- a sound connection passes the test
pub is_sound_if : (s : State) → IsSoundState s → is_sound s ≡ true
is_sound_if s h = and_from _ _ (eq-eqb _ _ h.clean) (and_from _ _ h.is_open (ap not h.idle))

-- what is told is the last commit of a sound connection
pub told_sound : (s : State) (t : Tables) → told_in s ≡ Some t → IsSoundState s × (tables_of s.committed ≡ Some t)
unfolding told_in
told_sound s t h = go (is_sound s) refl h
  where
    go : (b : Bool) → is_sound s ≡ b → cond b (tables_of s.committed) None ≡ Some t → IsSoundState s × (tables_of s.committed ≡ Some t)
    go true is e = (sound_is s is, e)
    go false is e = cc

-- a sound connection tells what its last commit stands for
pub sound_tells : (s : State) → IsSoundState s → told_in s ≡ tables_of s.committed
unfolding told_in
sound_tells s h = rw (is_sound_if s h)

-- a connection that was sound is open afterwards, unless the disk failed a call
pub stays_sound : (s0 s3 : State) (P : Trees → Type 0) → Survives s0 s3 P → s3.in_transaction ≡ false → StaysSound s0 s3
stays_sound s0 s3 P survives idle sound clean = elim (survives.closes clean sound.is_open) [
  | inl opens ↦ inl (record { clean = clean; is_open = opens; idle = idle })
  | inr more ↦ inr more
]

-- what a connection that is shut leaves it could leave before
pub after_fault : (s0 s3 : State) (Q : Trees → Type 0) → Survives s0 s3 (λ db. IsTrue s0.is_open × Q db) → LeavesNoMore s0 s3
after_fault s0 s3 Q survives shut clean = (
  omega (arith, survives.clean, clean),
  λ db may. elim (survives.crash clean db may) [ inl before ↦ before | inr after ↦ absurd (let opens = after.0 in cc) ],
)

-- the same of a keeper, which is open or not
pub fault_leaves : {S : Type 0} (g : Ghosts S) (old new : Result (Held S) KeepFail) (c d : Held S) → old ≡ Ok c → new ≡ Ok d → LeavesNoMore (state g c) (state g d) → FaultLeaves g old new
fault_leaves g old new c d was is leaves = rw (was, is) leaves

-- a keeper that is shut for good leaves nothing
pub shut_leaves : {S : Type 0} (g : Ghosts S) (old new : Result (Held S) KeepFail) (fail : KeepFail) → old ≡ Err fail → FaultLeaves g old new
shut_leaves g old new fail was = rw was tt

-- an old outcome of a crash is the last commit
pub on_crash : (s0 s3 : State) (batch : List Change) → ((db : Trees) → IsTrue s0.is_open → s0.may_leave db → db ≡ s0.committed.trees) → IsLive s0
    → Survives s0 s3 (λ db. IsTrue s0.is_open × IfSome (told_in s0) (λ t. StandsFor db (after_batch batch t))) → OnCrash s0 s3 batch
on_crash s0 s3 batch law live survives clean = if_some (told_in s0) _ (λ t told db may. elim (survives.crash clean db may) [
  | inl before ↦ inl (let it = told_sound s0 t told in subst (λ trees. StandsFor trees t) (sym (law db it.0.is_open before)) (s0.committed.schema, (live it.0.is_open).1, it.1))
  | inr after ↦ inr (rw told at after.1)
])

-- within a transaction nothing is told
pub on_crash_within : (s0 s3 : State) (batch : List Change) → IsTrue s0.in_transaction → OnCrash s0 s3 batch
on_crash_within s0 s3 batch inside clean = if_some (told_in s0) _ (λ t told. absurd (let idle = (told_sound s0 t told).0.idle in cc))

whole_tells : (db : Database) (t : Tables) → IsWhole db t → tables_of db ≡ Some t
whole_tells db t at = is_told all_tables db t at.schema at.told

-- a database with all tables stands for what it tells
pub whole_stands : (db : Database) (t : Tables) → IsWhole db t → StandsFor db.trees t
whole_stands db t at = (db.schema, at.sound, whole_tells db t at)

-- a transaction from s1, which begins at s0, to its end: s2 is what it left before, and s3 what is left then
module _ (s0 s1 s2 s3 : State) (begun_now : s1.now ≡ s0.now) (begun_committed : s1.committed ≡ s0.committed) (begun_open : s1.is_open ≡ s0.is_open) (begun_clean : s1.is_clean ≡ s0.is_clean)
    (begun : IsTrue s1.in_transaction)
    (idle : s0.in_transaction ≡ false) (settled : IsTrue s0.is_open → s0.now ≡ s0.committed) (live : IsLive s0)
    (falls_first : doubt s1.is_clean ≤ doubt s2.is_clean) (falls_last : doubt s2.is_clean ≤ doubt s3.is_clean) (ended : s3.in_transaction ≡ false)
    {A E F : Type 0} (answer : Result A E) (result : Result A F) (f : Tables → Tables) (P : A → Type 0) (inside : Inside s1 s2 answer (λ it. Leaves s1.now s2.now f × P it))
    (ends : HasCleanDisk s3 → Ends s2 s3 result) (same : IfOk result (λ it. answer ≡ Ok it)) where
  earlier : HasCleanDisk s3 → HasCleanDisk s2
  earlier clean = omega (arith, falls_last, clean)

  first : HasCleanDisk s3 → HasCleanDisk s0
  first clean = omega (arith, falls_first, falls_last, clean, ap doubt begun_clean)

  was_open : (r : Result A F) → Ends s2 s3 r → IsTrue s3.is_open → IsTrue s2.is_open
  was_open (Ok a) h opens = (h opens).0
  was_open (Err e) h opens = (h opens).0

  opened : IsSoundState s3 → IsTrue s2.is_open
  opened h = was_open result (ends h.clean) h.is_open

  -- a connection that is sound at the end was sound at the beginning
  pub sound_back : IsSoundState s3 → IsSoundState s0
  sound_back h = record {
    clean = first h.clean;
    is_open = sym begun_open ∙ (inside (earlier h.clean) begun).0.was_open (opened h);
    idle = idle;
  }

  -- what the transaction began with
  pub begins : (t : Tables) → told_in s0 ≡ Some t → (stage : Stage) × IsAt stage s1.now t
  begins t told =
      let it = told_sound s0 t told in
      let opens = it.0.is_open in
      let now : s1.now ≡ s0.committed = begun_now ∙ settled opens in
      let is = told_is s0.committed t it.1 in
      (is.0, subst (λ db. IsAt is.0 db t) (sym now) (record { schema = is.1; sound = (live opens).1; told = is.2 }))

  went_well : (a : A) → answer ≡ Ok a → HasCleanDisk s2 → IsTrue s2.in_transaction × (Leaves s1.now s2.now f × P a)
  went_well a is clean = rw is at (inside clean begun).1

  -- after a failure the tables are as before
  pub failed : (e : F) → result ≡ Err e → IsSoundState s3 → (t : Tables) → told_in s0 ≡ Some t → told_in s3 ≡ Some t
  failed e is h t told =
      let it = told_sound s0 t told in
      let last = (rw is at (ends h.clean)) h.is_open in
      let kept = (inside (earlier h.clean) begun).0.committed last.0 in
      let committed : s3.committed ≡ s0.committed = last.1 ∙ kept ∙ begun_committed in
      sound_tells s3 h ∙ ap tables_of committed ∙ it.1

  -- and otherwise they are changed
  pub done : (a : A) → result ≡ Ok a → IsSoundState s3 → (t : Tables) → told_in s0 ≡ Some t → (told_in s3 ≡ Some (f t)) × P a
  done a is h t told =
      let last = (rw is at (ends h.clean)) h.is_open in
      let its : answer ≡ Ok a = rw is at same in
      let went = went_well a its (earlier h.clean) in
      let start = begins t told in
      let whole = went.1.0 start.0 t start.1 in
      (sound_tells s3 h ∙ ap tables_of last.1 ∙ whole_tells s2.now (f t) whole, went.1.1)

  -- both, by what is answered
  pub tells : IsSoundState s3 → IfSome (told_in s0) (λ t. told_in s3 ≡ Some (left_by result f t))
  tells h = if_some (told_in s0) _ (λ t told. go result refl h t told)
    where
      go : (r : Result A F) → result ≡ r → IsSoundState s3 → (t : Tables) → told_in s0 ≡ Some t → told_in s3 ≡ Some (left_by r f t)
      go (Ok a) is h t told = (done a is h t told).0
      go (Err e) is h t told = failed e is h t told

  -- what is answered of the tables it began with
  pub gives : (Q : A → Tables → Type 0) → ((a : A) → P a → (stage : Stage) (t : Tables) → IsAt stage s1.now t → Q a t) → IsSoundState s3 → IfSome (told_in s0) (λ t. IfOk result (λ a. Q a t))
  gives Q reads h = if_some (told_in s0) _ (λ t told. if_ok result _ (λ a is. let start = begins t told in reads a (done a is h t told).1 start.0 t start.1))

  -- what is answered of the database that it began with, whatever that tells
  pub finds : (Q : A → Database → Type 0) → ((a : A) → P a → IsDatabase s1.now → Q a s1.now) → IsSoundState s3 → IfOk result (λ a. Q a s0.committed)
  finds Q reads h = if_ok result _ (λ a is.
      let its : answer ≡ Ok a = rw is at same in
      let opens = (sound_back h).is_open in
      let now : s1.now ≡ s0.committed = begun_now ∙ settled opens in
      subst (Q a) now (reads a (went_well a its (earlier h.clean)).1.1 (subst IsDatabase (sym now) (live opens).1)))

  -- A crash leaves what it could leave before, or the tables as they are changed. That comes of an
  -- open connection alone.
  pub crashes : ((a : A) → P a → IsTrue s1.is_open) → Survives s1 s2 (λ _. ⊥) → Survives s2 s3 (λ db. IsOk answer × (db ≡ s2.now.trees))
      → Survives s1 s3 (λ db. IsTrue s0.is_open × IfSome (told_in s0) (λ t. StandsFor db (f t)))
  crashes opens one two = survives_then s1 s2 s3 (λ _. ⊥) (λ db. IsOk answer × (db ≡ s2.now.trees))
      (λ db. IsTrue s0.is_open × IfSome (told_in s0) (λ t. StandsFor db (f t))) (λ clean db none. absurd none)
      (λ clean db it.
      let a = ok_of answer it.0 in
      let went = went_well a.0 a.1 (earlier clean) in (
        sym begun_open ∙ opens a.0 went.1.1,
        if_some (told_in s0) (λ t. StandsFor db (f t)) (λ t told.
            let start = begins t told in
            subst (λ trees. StandsFor trees (f t)) (sym it.1) (whole_stands s2.now (f t) (went.1.0 start.0 t start.1))),
      )) one two
    where
      ok_of : (r : Result A E) → IsOk r → (a : A) × (r ≡ Ok a)
      ok_of (Ok a) h = (a, refl)
      ok_of (Err e) h = cc
