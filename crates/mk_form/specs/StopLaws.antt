-- What holds for every form that is read exactly: the statements that the functions of
-- `src/stopping.rt` ensure.
--     HasOneStop, LivesAreFronts     what is live, and the line that ends it
--     HasOneValue, TextIsTaken       a text has one value, which the reader gives
--     BadLineIsStop, IsTextOrBad, BadIsNoText, HasOneBadLine     of the bad line of lines
--     HasOnePart, PartIsTaken, BadLineOfPartIsStop, IsPartOrBad     of a part that lines begin with
--     HasOnePartFrom, PartFromIsTaken, BadLineFromIsStop, BadFromIsNoPart, HasOneBadLineFrom
--                                    of a part behind the first lines of a longer text
--     NamedIsDue, NamedFromIsDue, StopIsNamed, StopFromIsNamed     of the name of a line
use Rattle.std.specs.Prelude.{◌≡◌, ◌↔◌, ℕ, ◌≤◌, ◌<◌, Bool, true, List, [], length, drop, ◌⊎◌, IsTrue}
use Rattle.mk_form.specs.Fronts.{IsFront, IsStop, IsBadLineWhere, IsPart, IsPartFrom, IsBadLineOfPartWhere, IsBadLineFromWhere, IsNamed, IsNamedFrom}
use Rattle.mk_form.specs.Reading.{Took, TakesLines, StopsAtLine}
use Rattle.mk_form.specs.Exact.{Part}

-- ---- the first line with which the lines are no longer live

-- there is at most one line with which the lines are no longer live
abbrev pub HasOneStop : {L : Type 0} → (List L → Type 0) → Type 0
HasOneStop {L} Live = (lines : List L) (j k : ℕ) → IsStop Live lines j → IsStop Live lines k → j ≡ k

-- fronts are live, and what may go on is no more than fronts
abbrev pub LivesAreFronts : {L V : Type 0} → Part L V → Type 0
LivesAreFronts {L} p = (lines : List L) → p.live lines ↔ IsFront p.is lines

-- ---- whole texts

-- a text has one value
abbrev pub HasOneValue : {L V : Type 0} → Part L V → Type 0
HasOneValue {L} {V} p = (lines : List L) (v w : V) → p.is lines v → p.is lines w → v ≡ w

-- a text of the form is what the reader takes to the last line
abbrev pub TextIsTaken : {L V : Type 0} → Part L V → Type 0
TextIsTaken {L} {V} p = (lines : List L) (v : V) → p.is lines v ↔ (p.read lines ≡ Took v [])

-- where the reader stops is the bad line
abbrev pub BadLineIsStop : {L V : Type 0} → Part L V → Type 0
BadLineIsStop {L} p = (lines : List L) (k : ℕ) → IsBadLineWhere p.live p.is lines k ↔ ((named : Bool) × StopsAtLine lines named k (p.read lines))

-- lines are a text of the form or have a bad line
abbrev pub IsTextOrBad : {L V : Type 0} → Part L V → Type 0
IsTextOrBad {L} {V} p = (lines : List L) → ((v : V) × p.is lines v) ⊎ ((k : ℕ) × IsBadLineWhere p.live p.is lines k)

-- lines have a bad line exactly where they are no text of the form
abbrev pub BadIsNoText : {L V : Type 0} → Part L V → Type 0
BadIsNoText {L} {V} p = (lines : List L) → ((k : ℕ) × IsBadLineWhere p.live p.is lines k) ↔ ((v : V) → ¬ (p.is lines v))

-- lines have at most one bad line
abbrev pub HasOneBadLine : {L V : Type 0} → Part L V → Type 0
HasOneBadLine {L} p = (lines : List L) (j k : ℕ) → IsBadLineWhere p.live p.is lines j → IsBadLineWhere p.live p.is lines k → j ≡ k

-- ---- parts of a longer text

-- at most one text of the form begins with the lines, with one value
abbrev pub HasOnePart : {L V : Type 0} → Part L V → Type 0
HasOnePart {L} {V} p = (lines : List L) (m n : ℕ) (v w : V) → IsPart p.is lines m v → IsPart p.is lines n w → (m ≡ n) × (v ≡ w)

-- a text of the form with which the lines begin is what the reader takes
abbrev pub PartIsTaken : {L V : Type 0} → Part L V → Type 0
PartIsTaken {L} {V} p = (lines : List L) (count : ℕ) (v : V) → IsPart p.is lines count v ↔ TakesLines lines count v (p.read lines)

-- where the reader stops is the bad line
abbrev pub BadLineOfPartIsStop : {L V : Type 0} → Part L V → Type 0
BadLineOfPartIsStop {L} p = (lines : List L) (k : ℕ) → IsBadLineOfPartWhere p.live p.is lines k ↔ ((named : Bool) × StopsAtLine lines named k (p.read lines))

-- a text of the form begins with the lines, or they have a bad line
abbrev pub IsPartOrBad : {L V : Type 0} → Part L V → Type 0
IsPartOrBad {L} {V} p = (lines : List L) → ((count : ℕ) × (v : V) × IsPart p.is lines count v) ⊎ ((k : ℕ) × IsBadLineOfPartWhere p.live p.is lines k)

-- behind the first lines of a longer text, a text of the form is what the reader takes
abbrev pub PartFromIsTaken : {L V : Type 0} → Part L V → Type 0
PartFromIsTaken {L} {V} p =
    (at : ℕ) (lines : List L) (next : ℕ) (v : V) → at ≤ length lines → IsPartFrom p.is at lines next v ↔ ((at ≤ next) × TakesLines lines next v (p.read (drop at lines)))

-- behind the first lines of a longer text, where the reader stops is the bad line
abbrev pub BadLineFromIsStop : {L V : Type 0} → Part L V → Type 0
BadLineFromIsStop {L} p =
    (at : ℕ) (lines : List L) (k : ℕ) → at ≤ length lines → IsBadLineFromWhere p.live p.is at lines k ↔ ((at < k) × (named : Bool) × StopsAtLine lines named k (p.read (drop at lines)))

-- at most one text of the form begins behind the first lines of a longer text, with one end and one
-- value
abbrev pub HasOnePartFrom : {L V : Type 0} → Part L V → Type 0
HasOnePartFrom {L} {V} p = (at : ℕ) (lines : List L) (m n : ℕ) (v w : V) → IsPartFrom p.is at lines m v → IsPartFrom p.is at lines n w → (m ≡ n) × (v ≡ w)

-- there is a bad line behind the first lines exactly where no text of the form begins there
abbrev pub BadFromIsNoPart : {L V : Type 0} → Part L V → Type 0
BadFromIsNoPart {L} {V} p =
    (at : ℕ) (lines : List L) → at ≤ length lines → ((k : ℕ) × IsBadLineFromWhere p.live p.is at lines k) ↔ ((next : ℕ) (v : V) → ¬ (IsPartFrom p.is at lines next v))

-- behind the first lines of a longer text there is at most one bad line
abbrev pub HasOneBadLineFrom : {L V : Type 0} → Part L V → Type 0
HasOneBadLineFrom {L} p = (at : ℕ) (lines : List L) (j k : ℕ) → IsBadLineFromWhere p.live p.is at lines j → IsBadLineFromWhere p.live p.is at lines k → j ≡ k

-- ---- the name of a line

-- the reader names its stop exactly where a line is due that may say its name, and the line says it
abbrev pub NamedIsDue : {L V : Type 0} → (L → Bool) → Part L V → Type 0
NamedIsDue {L} says p = (lines : List L) (k : ℕ) → IsNamed p.due says lines k ↔ StopsAtLine lines true k (p.read lines)

-- behind the first lines of a longer text, the reader names its stop exactly where a line is due
-- that may say its name, and the line says it
abbrev pub NamedFromIsDue : {L V : Type 0} → (L → Bool) → Part L V → Type 0
NamedFromIsDue {L} says p =
    (at : ℕ) (lines : List L) (k : ℕ) → at ≤ length lines → IsNamedFrom p.due says at lines k ↔ ((at < k) × StopsAtLine lines true k (p.read (drop at lines)))

-- a stop is named exactly where a line is due that may say its name, and the line says it
abbrev pub StopIsNamed : {L V : Type 0} → (L → Bool) → Part L V → Type 0
StopIsNamed {L} says p = (lines : List L) (k : ℕ) (named : Bool) → StopsAtLine lines named k (p.read lines) → IsTrue named ↔ IsNamed p.due says lines k

-- behind the first lines of a longer text, a stop is named exactly where a line is due that may say
-- its name, and the line says it
abbrev pub StopFromIsNamed : {L V : Type 0} → (L → Bool) → Part L V → Type 0
StopFromIsNamed {L} says p =
    (at : ℕ) (lines : List L) (k : ℕ) (named : Bool) → at ≤ length lines → at < k → StopsAtLine lines named k (p.read (drop at lines)) → IsTrue named ↔ IsNamedFrom p.due says at lines k
