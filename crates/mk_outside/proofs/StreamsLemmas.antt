-- What was written or taken, call by call, where the bytes are known.
use Rattle.std.proofs.Common.{◌≡◌, ℕ, ◌+◌, ◌-◌, ◌≤◌, List, ◌++◌, length, take, drop, Option, Some, None, Err, arith, sym, ap, ◌∙◌, take-append-drop, take-add, length-append, length-take, length-drop, take_all}
use Rattle.std.specs.Io.KnownBytes.{Appends, Consumes, Keeps}
use Rattle.std.proofs.KnownBytes.{Appends-trans, Consumes-trans}
use Rattle.mk_outside.specs.declared.answers.PutFail.TheVariants as put_fail
use Rattle.mk_outside.specs.Told.{Puts}
use Rattle.mk_outside.specs.Streams.{TakesAtMost}

-- ---- writing

-- a prefix was written, and then the writing failed
pub fails_behind : (A : Type 0) (a b c : Option (List ℕ)) (piece : List ℕ) (done : ℕ) → Appends a b (take done piece) → Keeps b c
    → Puts {A = A} a c piece (Err put_fail.Failed)
fails_behind A None b c piece done h k = tt
fails_behind A (Some x) None c piece done h k = absurd h
fails_behind A (Some x) (Some y) None piece done h k = absurd k
fails_behind A (Some x) (Some y) (Some z) piece done h k = record {
  prefix = take done piece;
  rest = drop done piece;
  whole = sym (take-append-drop done piece);
  appended = ap (λ bytes. Some bytes) (k ∙ h);
}

-- what is left of the piece
pub left_all : (piece : List ℕ) (done : ℕ) → take (length piece - done) (drop done piece) ≡ drop done piece
left_all piece done = take_all (length piece - done) (drop done piece) (rw length-drop (omega arith))

-- some more was written of what was left
pub writes_more : (a b c : Option (List ℕ)) (piece : List ℕ) (done n : ℕ) → Appends a b (take done piece)
    → Appends b c (take n (take (length piece - done) (drop done piece))) → Appends a c (take (done + n) piece)
writes_more a b c piece done n p q = rw take-add (Appends-trans a b c _ _ p (rw left_all at q))

-- what was written stays written
pub writes_kept : (a b c : Option (List ℕ)) (bytes : List ℕ) → Appends a b bytes → Keeps b c → Appends a c bytes
writes_kept None b c bytes p q = tt
writes_kept (Some x) None c bytes p q = absurd p
writes_kept (Some x) (Some y) None bytes p q = absurd q
writes_kept (Some x) (Some y) (Some z) bytes p q = q ∙ p

-- ---- reading

-- so much was taken before, and the front of a buffer now
pub takes_more : (a b c : Option (List ℕ)) (out buf : List ℕ) (n most : ℕ) → Consumes a b out → Consumes b c (take n buf)
    → length out + length buf ≤ most → TakesAtMost most a c
takes_more a b c out buf n most p q few = record {
  taken = out ++ take n buf;
  few = rw (length-append, length-take) (omega arith);
  consumed = Consumes-trans a b c out (take n buf) p q;
}
