-- Parts that are made by steps, as a form that speaks of itself is: `steps n` is the form that goes
-- down no more than n times.
--     limit steps         what holds of some step
--     IsBelow p q         what holds of the part p holds of the part q
--     Grows steps         each step is below the next, and enough of them read alike
--     IsLimit steps q     the part q is what the steps come to
use Rattle.std.specs.Prelude.{◌≡◌, ℕ, suc, ◌≤◌, List, length}
use Rattle.mk_form.specs.Exact.{Part}

-- what holds of some step; as many steps as there are lines are enough to read
abbrev pub limit : {L V : Type 0} → (ℕ → Part L V) → Part L V
limit steps = record {
  is = λ lines v. (n : ℕ) × (steps n).is lines v;
  live = λ lines. (n : ℕ) × (steps n).live lines;
  due = λ lines. (n : ℕ) × (steps n).due lines;
  read = λ lines. (steps (length lines)).read lines;
}

-- What holds of the part p holds of the part q.
pub record IsBelow {L V : Type 0} (p q : Part L V) : Type 0 where
  pub is : (lines : List L) (v : V) → p.is lines v → q.is lines v
  pub live : (lines : List L) → p.live lines → q.live lines
  pub due : (lines : List L) → p.due lines → q.due lines

-- What holds of a step holds of the next, and for lines that are no more than n the next step reads
-- as the step n does.
pub record Grows {L V : Type 0} (steps : ℕ → Part L V) : Type 0 where
  pub more : (n : ℕ) → IsBelow (steps n) (steps (suc n))
  pub reads : (n : ℕ) (lines : List L) → length lines ≤ n → (steps (suc n)).read lines ≡ (steps n).read lines

-- What holds of q holds of all steps that are large enough, and the other way round. For lines that
-- are no more than n the step n reads as q does.
pub record IsLimit {L V : Type 0} (steps : ℕ → Part L V) (q : Part L V) : Type 0 where
  pub is_to : (n : ℕ) (lines : List L) (v : V) → (steps n).is lines v → q.is lines v
  pub is_from : (lines : List L) (v : V) → q.is lines v → (m : ℕ) × ((n : ℕ) → m ≤ n → (steps n).is lines v)
  pub live_to : (n : ℕ) (lines : List L) → (steps n).live lines → q.live lines
  pub live_from : (lines : List L) → q.live lines → (m : ℕ) × ((n : ℕ) → m ≤ n → (steps n).live lines)
  pub due_to : (n : ℕ) (lines : List L) → (steps n).due lines → q.due lines
  pub due_from : (lines : List L) → q.due lines → (m : ℕ) × ((n : ℕ) → m ≤ n → (steps n).due lines)
  pub reads : (n : ℕ) (lines : List L) → length lines ≤ n → (steps n).read lines ≡ q.read lines
