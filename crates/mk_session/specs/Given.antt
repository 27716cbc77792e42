-- What the words and the input ask for, as the code hands it on.
--     orders_of_work, asked_of_given     the orders that are given
--     ReadsInput, Gives                  what is read of the input, and what is given by it
--     CanAskOrder, CanAskWork, CanAskGiven     what a session may be asked
use Rattle.std.specs.Prelude.{◌≡◌, ◌≢◌, ℕ, ◌<◌, ◌≤◌, List, [], ◌∷◌, length, Option, Some, None, Result, Ok, Err, IfSome, ⊤}
use Rattle.mk_outside.specs.Counts.{Rose}
use Rattle.mk_text.specs.Spans.{parts, AreWithin}
use Rattle.mk_words.specs.declared.command.Command.{Command}
use Rattle.mk_words.specs.declared.command.WordsKind.TheVariants as words_kind
use Rattle.mk_session.specs.declared.status.Status.{Status}
use Rattle.mk_session.specs.declared.status.Status.TheVariants as status
use Rattle.mk_session.specs.declared.work.Given.{Given}
use Rattle.mk_session.specs.declared.work.Given.TheVariants as given
use Rattle.mk_session.specs.declared.work.Work.{Work}
use Rattle.mk_session.specs.declared.work.Work.TheVariants as work
use Rattle.mk_words.specs.Commands.{CanAsk, kind_of_words}
use Rattle.mk_session.specs.Outcomes.{Agrees}
use Rattle.mk_session.specs.Orders.{Asked, NoCommand, Order, Orders, TooMuch, asked, orders_of, script_bytes}

abbrev pub orders_of_work : Work → List Order
orders_of_work (work.One order) = order ∷ []
orders_of_work (work.Script text lines) = orders_of (parts text lines)

abbrev pub asked_of_given : Given → Asked
asked_of_given given.NoCommand = NoCommand
asked_of_given given.TooMuch = TooMuch
asked_of_given (given.Orders work) = Orders (orders_of_work work)

-- the whole of the input was read, or more of it than a script may have
abbrev pub IsInput : Option (List ℕ) → Option (List ℕ) → Option (List ℕ) → Type 0
IsInput old new (Some text) = Agrees old text × IfSome old (λ _. new ≡ Some []) × (length text ≤ script_bytes)
IsInput old new None = (text : List ℕ) × Agrees old text × (script_bytes < length text)

abbrev pub ReadsInput : Option (List ℕ) → Option (List ℕ) → ℕ → ℕ → Result (Option (List ℕ)) Status → Type 0
ReadsInput old new f f' (Ok found) = IsInput old new found × (f' ≡ f)
ReadsInput old new f f' (Err status.Read) = Rose f f'
ReadsInput old new f f' (Err status.Memory) = f' ≡ f
ReadsInput old new f f' (Err _) = ⊥

-- what is given by the words and this input, which is read to its end where it is the script
pub record IsGiven (words : List (List ℕ)) (old new : Option (List ℕ)) (f f' : ℕ) (g : Given) : Type 0 where
  pub input : List ℕ
  pub is_told : Agrees old input
  pub asks : asked words input ≡ asked_of_given g
  pub count : f' ≡ f
  pub at_end : kind_of_words words ≡ words_kind.Script → g ≢ given.TooMuch → IfSome old (λ _. new ≡ Some [])
  pub same : kind_of_words words ≢ words_kind.Script → new ≡ old
  pub one : (command : Command) → kind_of_words words ≡ words_kind.Is command → g ≡ given.Orders (work.One (Some command))

abbrev pub Gives : List (List ℕ) → Option (List ℕ) → Option (List ℕ) → ℕ → ℕ → Result Given Status → Type 0
Gives words old new f f' (Ok g) = IsGiven words old new f f' g
Gives words old new f f' (Err status.Read) = (kind_of_words words ≡ words_kind.Script) × Rose f f'
Gives words old new f f' (Err status.Memory) = (f' ≡ f) × (kind_of_words words ≢ words_kind.Script → new ≡ old)
Gives words old new f f' (Err _) = ⊥

abbrev pub CanAskOrder : Order → Type 0
CanAskOrder None = ⊤
CanAskOrder (Some command) = CanAsk command

-- a work that a session may do
abbrev pub CanAskWork : Work → Type 0
CanAskWork (work.One order) = CanAskOrder order
CanAskWork (work.Script text lines) = AreWithin text lines

abbrev pub CanAskGiven : Given → Type 0
CanAskGiven given.NoCommand = ⊤
CanAskGiven given.TooMuch = ⊤
CanAskGiven (given.Orders work) = CanAskWork work
