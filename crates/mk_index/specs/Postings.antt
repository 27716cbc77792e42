-- Which records have a bit of a screen, and which may cover a need.
--     IsPosted rows b n            the molecule under the number shows a path with the bit
--     IsPosting rows b numbers     the rising list of all such numbers
--     HaveScreens rows             each molecule that is held has a screen
--     IsCandidate rows need n      the screen of the molecule under the number covers the need
--     IsNextCandidate rows need from n     the least such number from there on
--     NoCandidate rows need from   there is none from there on
--     IsEligible rows need from n  a number from there on that has every bit of the need
--     LooksFor rows need from found old new     a search for the next candidate has looked at
--                                               eligible numbers alone, and at each once
use Rattle.std.specs.Prelude.{◌≡◌, ◌≤◌, ◌<◌, ◌+◌, ◌↔◌, ℕ, true, List, [], ◌∷◌, Option, Some, length, ⊤, IfSome, IsTrue, Contains}
use Rattle.std.specs.List.{AllByRecursion}
use Rattle.mk_model.specs.Molecules.{Molecule}
use Rattle.mk_model.specs.declared.screen.Screen.{Screen}
use Rattle.mk_model.specs.Screens.{Covers, IsBitOf, IsScreenOf, has_bit, shown_by_mol}
use Rattle.mk_rows.specs.declared.by_number.Numbered.{Numbered}
use Rattle.mk_rows.specs.Rows.{holds, item_at}

-- ---- rising numbers, and counts

-- each number is below all later ones
abbrev pub AreRising : List ℕ → Type 0
AreRising [] = ⊤
AreRising (n ∷ numbers) = AllByRecursion (λ later. n < later) numbers × AreRising numbers

-- The count has gone up by one for each number of a rising list, and each of these has P. So where
-- at most so many numbers have P, it has gone up by at most as many.
pub record CountsEach (P : ℕ → Type 0) (old new : ℕ) : Type 0 where
  pub numbers : List ℕ
  pub rises : AreRising numbers
  pub each : AllByRecursion P numbers
  pub ticks : new ≡ old + length numbers

-- ---- postings

-- the molecule under the number shows a path with the bit
abbrev pub IsPosted : List (Numbered Molecule) → ℕ → ℕ → Type 0
IsPosted rows b n = (mol : Molecule) × (item_at n rows ≡ Some mol) × IsBitOf (shown_by_mol mol) b

-- the rising list of all numbers whose molecules show a path with the bit
pub record IsPosting (rows : List (Numbered Molecule)) (b : ℕ) (numbers : List ℕ) : Type 0 where
  pub rises : AreRising numbers
  pub each : (n : ℕ) → Contains numbers n ↔ IsPosted rows b n

-- ---- candidates

-- each molecule that is held has a screen
abbrev pub HaveScreens : List (Numbered Molecule) → Type 0
HaveScreens rows = (n : ℕ) (mol : Molecule) → item_at n rows ≡ Some mol → (screen : Screen) × IsScreenOf mol screen

-- the molecule is held under the number, and its screen covers the need
pub record IsCandidate (rows : List (Numbered Molecule)) (need : Screen) (n : ℕ) : Type 0 where
  pub mol : Molecule
  pub screen : Screen
  pub held : item_at n rows ≡ Some mol
  pub is : IsScreenOf mol screen
  pub covers : Covers screen need

-- the number is the least from there on whose screen covers the need
pub record IsNextCandidate (rows : List (Numbered Molecule)) (need : Screen) (from n : ℕ) : Type 0 where
  pub is : IsCandidate rows need n
  pub not_below : from ≤ n
  pub least : (other : ℕ) → from ≤ other → IsCandidate rows need other → n ≤ other

-- from there on no screen covers the need
abbrev pub NoCandidate : List (Numbered Molecule) → Screen → ℕ → Type 0
NoCandidate rows need from = (n : ℕ) → from ≤ n → IsCandidate rows need n → ⊥

-- ---- looks

-- the number is held, isn't below `from`, and stands in the posting of each bit of the need
pub record IsEligible (rows : List (Numbered Molecule)) (need : Screen) (from n : ℕ) : Type 0 where
  pub held : holds n rows ≡ true
  pub not_below : from ≤ n
  pub posted : (b : ℕ) → b < 512 → IsTrue (has_bit need.bits b) → IsPosted rows b n

-- no number is above the one that was found, where one was
abbrev pub IsUpTo : Option ℕ → ℕ → Type 0
IsUpTo found n = IfSome found (λ last. n ≤ last)

-- the looks were at eligible numbers, at each at most once, none above the one that was found; and
-- where one was found, there was a look
pub record LooksFor (rows : List (Numbered Molecule)) (need : Screen) (from : ℕ) (found : Option ℕ) (old new : ℕ) : Type 0 where
  pub most : CountsEach (λ n. IsEligible rows need from n × IsUpTo found n) old new
  pub least : IfSome found (λ _. old < new)
