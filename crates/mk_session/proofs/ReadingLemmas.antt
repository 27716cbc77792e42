-- What the input holds, from what was read of it.
use Rattle.std.proofs.Common.{◌≡◌, ℕ, ◌≤◌, List, [], ◌++◌, length, take, Option, Some, None, refl, sym, arith, length-append, ◌∙◌, ap}
use Rattle.std.proofs.lemmas.List.{length-take-le}
use Rattle.std.specs.Io.KnownBytes.{Consumes}
use Rattle.std.proofs.KnownBytes.{Consumes-trans}
use Rattle.mk_words.specs.declared.command.WordsKind.{WordsKind}
use Rattle.mk_words.specs.declared.command.WordsKind.TheVariants as words_kind
use Rattle.mk_words.specs.declared.command.Command.{Command}
use Rattle.mk_session.specs.declared.work.Given.TheVariants as given
use Rattle.mk_session.specs.declared.work.Work.TheVariants as work
use Rattle.mk_words.specs.Commands.{kind_of_words}
use Rattle.mk_session.specs.Orders.{asked_of}
use Rattle.mk_session.specs.Outcomes.{Agrees, IsInputTaken}
use Rattle.mk_session.specs.Given.{IsGiven}

-- the input begins with what was read
pub record Begins_with (old : Option (List ℕ)) (front : List ℕ) : Type 0 where
  pub text : List ℕ
  pub is_told : Agrees old text
  pub longer : length front ≤ length text

pub told_more : (old new : Option (List ℕ)) (front : List ℕ) → Consumes old new front → Begins_with old front
told_more None new front c = record { text = front; is_told = tt; longer = omega arith }
told_more (Some xs) None front c = absurd c
told_more (Some xs) (Some ys) front c = record { text = xs; is_told = refl; longer = omega (arith, ap length c, length-append front ys) }

-- what was read before and what one read more gave is taken
pub taken_more : (a b c : Option (List ℕ)) (front out : List ℕ) (n : ℕ) → Consumes a b front → Consumes b c (take n out)
    → length front ≤ 16777216 → n ≤ length out → length out ≡ 4096 → IsInputTaken a c
taken_more a b c front out n before here few within size = record {
  taken = front ++ take n out;
  is_taken = Consumes-trans a b c front (take n out) before here;
  few = (let l = length-append front (take n out) in let k = length-take-le n out within in omega (arith, l, k, few, within, size));
}

-- some text is the input, whether it is told or not
pub record Held_input (old : Option (List ℕ)) : Type 0 where
  pub text : List ℕ
  pub is_told : Agrees old text

pub held_input : (old : Option (List ℕ)) → Held_input old
held_input None = record { text = []; is_told = tt }
held_input (Some xs) = record { text = xs; is_told = refl }

-- the words aren't understood
pub given_nothing : (words : List (List ℕ)) (left : Option (List ℕ)) (f : ℕ) → words_kind.NotUnderstood ≡ kind_of_words words → IsGiven words left left f f given.NoCommand
given_nothing words left f is =
    let held = held_input left in
    record {
      input = held.text;
      is_told = held.is_told;
      asks = ap (λ (k : WordsKind). asked_of k held.text) (sym is);
      count = refl;
      at_end = λ e. absurd (cc (is ∙ e));
      same = λ _. refl;
      one = λ command e. absurd (cc (is ∙ e));
    }

-- they are a command
pub given_command : (words : List (List ℕ)) (left : Option (List ℕ)) (f : ℕ) (command : Command) → words_kind.Is command ≡ kind_of_words words
    → IsGiven words left left f f (given.Orders (work.One (Some command)))
given_command words left f command is =
    let held = held_input left in
    record {
      input = held.text;
      is_told = held.is_told;
      asks = ap (λ (k : WordsKind). asked_of k held.text) (sym is);
      count = refl;
      at_end = λ e. absurd (cc (is ∙ e));
      same = λ _. refl;
      one = λ other e.
          (let h = is ∙ e in let same : command ≡ other = cc
          in ap (λ (x : Command). given.Orders (work.One (Some x))) same);
    }
