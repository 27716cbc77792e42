-- Lists of numbers in order, and lists of them that rise.
--     IsBelow xs ys                      xs stands before ys: number by number, a proper prefix
--                                        before what it begins
--     Rises lists                        each list is below all that follow it
--     Holds lists xs                     xs is one of the lists
--     IsRisingListOfAll P lists          the rising list of all lists of numbers that have P
--     IsLeastFrom front P found          the least list that has P and isn't below the front, or
--                                        none
--     AreFirst most P lists              the first so many lists that have P, in rising order
--     place_behind place lists           the place behind the last of the lists
--     joined_with behind lists           each list with each of those that stand behind it
use Rattle.std.specs.Prelude.{◌≡◌, ℕ, ◌<◌, ◌≤◌, ◌⊎◌, List, [], ◌∷◌, ◌++◌, Option, Some, None, length, map, take, drop}
use Rattle.std.specs.List.{AllByRecursion, flat_map}

-- xs stands before ys: number by number, and a proper prefix before what it begins
abbrev pub IsBelow : List ℕ → List ℕ → Type 0
IsBelow xs [] = ⊥
IsBelow [] (y ∷ ys) = Unit {0}
IsBelow (x ∷ xs) (y ∷ ys) = (x < y) ⊎ ((x ≡ y) × IsBelow xs ys)

-- each list has P
abbrev pub Each : (List ℕ → Type 0) → List (List ℕ) → Type 0
Each P lists = AllByRecursion P lists

-- each list is below all that follow it
abbrev pub Rises : List (List ℕ) → Type 0
Rises [] = Unit {0}
Rises (xs ∷ others) = Each (λ ys. IsBelow xs ys) others × Rises others

-- xs is one of the lists
abbrev pub Holds : List (List ℕ) → List ℕ → Type 0
Holds [] xs = ⊥
Holds (ys ∷ others) xs = (ys ≡ xs) ⊎ Holds others xs

-- the lists rise, each has P, and each list of numbers that has P is among them
pub record IsRisingListOfAll (P : List ℕ → Type 0) (lists : List (List ℕ)) : Type 0 where
  pub rises : Rises lists
  pub each : (xs : List ℕ) → Holds lists xs → P xs
  pub all : (xs : List ℕ) → P xs → Holds lists xs

-- ---- the least from a front on

-- the list has P and isn't below the front, and nothing that has both is below it
pub record IsLeast (front : List ℕ) (P : List ℕ → Type 0) (found : List ℕ) : Type 0 where
  pub has : P found
  pub from : IsBelow found front → ⊥
  pub least : (other : List ℕ) → P other → (IsBelow other front → ⊥) → IsBelow other found → ⊥

-- the least list that has P and isn't below the front; none exactly where there is none
abbrev pub IsLeastFrom : List ℕ → (List ℕ → Type 0) → Option (List ℕ) → Type 0
IsLeastFrom front P None = (other : List ℕ) → P other → (IsBelow other front → ⊥) → ⊥
IsLeastFrom front P (Some found) = IsLeast front P found

-- ---- the first so many

-- Lists that have P, in rising order. Each list that has P is among them, or they are as many as
-- asked for and it is above all of them.
pub record AreFirst (most : ℕ) (P : List ℕ → Type 0) (lists : List (List ℕ)) : Type 0 where
  pub rises : Rises lists
  pub each : (xs : List ℕ) → Holds lists xs → P xs
  pub few : length lists ≤ most
  pub others : (xs : List ℕ) → P xs → Holds lists xs ⊎ ((length lists ≡ most) × Each (λ ys. IsBelow ys xs) lists)

-- the place behind a list is the list with 0 behind it; the place behind no list is the place
-- before it
abbrev pub place_behind : List ℕ → List (List ℕ) → List ℕ
place_behind place [] = place
place_behind place (xs ∷ lists) = place_behind (xs ++ (0 ∷ [])) lists

-- the list has P and isn't below the place
abbrev pub IsFrom : (List ℕ → Type 0) → List ℕ → List ℕ → Type 0
IsFrom P place xs = P xs × (IsBelow xs place → ⊥)

-- ---- lists with others behind them

-- each list with each of those that stand behind it, in order
abbrev pub joined_with : (List ℕ → List (List ℕ)) → List (List ℕ) → List (List ℕ)
joined_with behind lists = flat_map (λ a. map (λ b. a ++ b) (behind a)) lists

-- one of the lists, and behind it one of those that stand behind it
pub record IsJoined (behind : List ℕ → List (List ℕ)) (lists : List (List ℕ)) (xs : List ℕ) : Type 0 where
  pub front : List ℕ
  pub back : List ℕ
  pub is_front : Holds lists front
  pub is_back : Holds (behind front) back
  pub whole : xs ≡ front ++ back

-- none of the lists is a proper prefix of another
abbrev pub NoneBeginsAnother : List (List ℕ) → Type 0
NoneBeginsAnother lists = (front more : List ℕ) → Holds lists front → Holds lists (front ++ more) → more ≡ []

-- ---- laws

-- two rising lists that hold the same are one
abbrev pub OneRisingList : Type 0
OneRisingList =
    (lists others : List (List ℕ)) → Rises lists → Rises others
    → ((xs : List ℕ) → Holds lists xs → Holds others xs) → ((xs : List ℕ) → Holds others xs → Holds lists xs)
    → lists ≡ others

-- the first so many of a rising list rise, and stand below all others in it
abbrev pub FirstOfRising : Type 0
FirstOfRising =
    (n : ℕ) (lists : List (List ℕ)) → Rises lists
    → Rises (take n lists) × ((xs ys : List ℕ) → Holds (take n lists) xs → Holds (drop n lists) ys → IsBelow xs ys)

-- the lists up to a place, which are below it, and those from it on, which aren't
pub record IsCutAt (place : List ℕ) (lists front back : List (List ℕ)) : Type 0 where
  pub whole : lists ≡ front ++ back
  pub below : Each (λ xs. IsBelow xs place) front
  pub not_below : Each (λ xs. IsBelow xs place → ⊥) back
  pub rises : Rises back

-- a place cuts a rising list in two
abbrev pub RisingFromPlace : Type 0
RisingFromPlace =
    (place : List ℕ) (lists : List (List ℕ)) → Rises lists
    → (front : List (List ℕ)) × (back : List (List ℕ)) × IsCutAt place lists front back

-- Where lists rise and none is a proper prefix of another, and what stands behind each of them
-- rises, all of them joined are in order the rising list of all such.
abbrev pub JoinedListsRise : Type 0
JoinedListsRise =
    (behind : List ℕ → List (List ℕ)) (lists : List (List ℕ)) → Rises lists → NoneBeginsAnother lists
    → ((a : List ℕ) → Holds lists a → Rises (behind a))
    → IsRisingListOfAll (IsJoined behind lists) (joined_with behind lists)

-- no list stands between a list and the place behind it
abbrev pub NoneBeforePlaceBehind : Type 0
NoneBeforePlaceBehind = (xs ys : List ℕ) → IsBelow xs ys → IsBelow ys (xs ++ (0 ∷ [])) → ⊥
