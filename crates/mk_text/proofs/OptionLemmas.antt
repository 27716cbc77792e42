-- Values read in steps, and entries read one after the other, as a loop reads them: those that were read, and those still to
-- read, are all of them.
use Rattle.std.proofs.Common.{◌≡◌, ℕ, suc, ◌-◌, ◌+◌, ◌≤◌, ◌<◌, Bool, true, false, List, [], ◌∷◌, ◌++◌, Option, Some, None, refl, sym, ap, ◌∙◌, append_assoc, arith}
use Rattle.std.proofs.lemmas.List.{append-nil}
use Rattle.mk_text.specs.Options.{◌>>=◌, when, entries_of}

-- ---- steps

-- what was read in two steps was read in each of them
pub both_read : {A B : Type 0} (o : Option A) (f : A → Option B) (y : B) → (o >>= f) ≡ Some y
    → (x : A) × (o ≡ Some x) × (f x ≡ Some y)
both_read (Some x) f y read = (x, refl, read)
both_read None f y read = absurd cc

-- what was read behind a test passed it
pub test_passed : {X : Type 0} (test : Bool) (o : Option X) (x : X) → when test o ≡ Some x → (test ≡ true) × (o ≡ Some x)
test_passed true o x read = (refl, read)
test_passed false o x read = absurd cc

-- ---- entries

-- what was read before what is read
abbrev pub read_behind : {X : Type 0} → List X → Option (List X) → Option (List X)
read_behind front read = read >>= λ xs. Some (front ++ xs)

-- before the first
none_read_before : {X : Type 0} (read : Option (List X)) → read_behind [] read ≡ read
none_read_before (Some xs) = refl
none_read_before None = refl

-- behind one more
one_read_before : {X : Type 0} (front : List X) (x : X) (read : Option (List X))
    → read_behind front (read >>= λ xs. Some (x ∷ xs)) ≡ read_behind (front ++ x ∷ []) read
one_read_before front x (Some xs) = ap Some (sym (append_assoc front (x ∷ []) xs))
one_read_before front x None = refl

-- before the first entry
pub entries_none : {X : Type 0} (entry : ℕ → Option X) (count : ℕ) → read_behind [] (entries_of entry (count - 0) 0) ≡ entries_of entry count 0
entries_none entry count =
    let whole : count - 0 ≡ count = omega arith in
    none_read_before (entries_of entry (count - 0) 0) ∙ ap (λ (n : ℕ). entries_of entry n 0) whole

-- behind an entry that was read
pub entries_more : {X : Type 0} (entry : ℕ → Option X) (front : List X) (count i : ℕ) (x : X) (all : Option (List X))
    → i < count → entry i ≡ Some x → read_behind front (entries_of entry (count - i) i) ≡ all
    → read_behind (front ++ x ∷ []) (entries_of entry (count - (i + 1)) (i + 1)) ≡ all
entries_more entry front count i x all within is so_far =
    let left : count - i ≡ suc (count - (i + 1)) = omega arith in
    sym (one_read_before front x (entries_of entry (count - (i + 1)) (i + 1))) ∙ sym (rw (left, is) refl) ∙ so_far

-- at an entry that can't be read
pub entries_fail : {X : Type 0} (entry : ℕ → Option X) (front : List X) (count i : ℕ) (all : Option (List X))
    → i < count → entry i ≡ None → read_behind front (entries_of entry (count - i) i) ≡ all → all ≡ None
entries_fail entry front count i all within is so_far =
    let left : count - i ≡ suc (count - (i + 1)) = omega arith in
    sym so_far ∙ rw (left, is) refl

-- behind the last entry
pub entries_all : {X : Type 0} (entry : ℕ → Option X) (front : List X) (count i : ℕ) (all : Option (List X))
    → count ≤ i → read_behind front (entries_of entry (count - i) i) ≡ all → all ≡ Some front
entries_all entry front count i all past so_far =
    let left : count - i ≡ 0 = omega arith in
    sym so_far ∙ rw left (ap Some (append-nil front))
