-- What an open code has at one slot.
--     slot_there           a number is there
--     undecided_chosen     the slot is left open
--     link_chosen, vacant_chosen, member_begins, member_chosen      it becomes copies, is vacant, or is filled
use Rattle.std.proofs.Common.{◌≡◌, ◌≢◌, ◌∙◌, ℕ, Bool, true, ◌+◌, ◌<◌, ◌≤◌, List, [], ◌∷◌, ◌++◌, length, get_or, drop, refl, sym, ap, arith, append_assoc}
use Rattle.std.proofs.lemmas.List.{drop_more, append-nil}
use Rattle.mk_model.specs.Pieces.Piece.{Copies, Member, Nothing}
use Rattle.mk_model.specs.declared.template.Slot.{Slot}
use Rattle.mk_model.specs.declared.template.Slot.TheVariants.{Link, Site}
use Rattle.mk_model.specs.Expansions.{left_open}
use Rattle.mk_model.specs.Labels.{member, members_at}
use Rattle.mk_model.specs.Pieces.{Fragment}
use Rattle.mk_model.specs.Queries.{QueryView, slots_of}
use Rattle.mk_layout.proofs.SlotLemmas.{goes_on}
use Rattle.mk_expand.specs.OpenCodes.{OpenChoice, IsOpenChoice, open_spelling}
use Rattle.mk_expand.specs.OpenCodes.OpenChoice.{no_more, undecided, repeats, vacates, fills}
use Rattle.mk_expand.specs.OpenGraphs.{is_one_ended, open_expansion, open_pieces, opens_one_ended}
use Rattle.mk_expand.specs.Opening.{AreOpenChosen, IsOpened, OpenBegins}
use Rattle.mk_expand.proofs.OneChoiceLemmas.{and_true}

-- ---- a link

pub slot_there : (query : QueryView) (slot : Slot) (code : List ℕ) (at : ℕ) → OpenBegins query (slot ∷ []) (drop at code) → at < length code
slot_there query (Link atom most from to) code at begins = by begins.choice begins.made begins.spelt
  where
    by : (choice : OpenChoice) → IsOpenChoice query (Link atom most from to ∷ []) choice → open_spelling choice ++ begins.rest ≡ drop at code → at < length code
    by no_more is spelt = absurd is
    by (undecided others) is spelt = (goes_on code at 0 _ spelt).within
    by (repeats n others) is spelt = (goes_on code at n _ spelt).within
    by (vacates n others) is spelt = absurd is
    by (fills k inside others) is spelt = absurd is
slot_there query (Site atom groups first second) code at begins = by begins.choice begins.made begins.spelt
  where
    by : (choice : OpenChoice) → IsOpenChoice query (Site atom groups first second ∷ []) choice → open_spelling choice ++ begins.rest ≡ drop at code → at < length code
    by no_more is spelt = absurd is
    by (undecided others) is spelt = (goes_on code at 0 _ spelt).within
    by (repeats n others) is spelt = absurd is
    by (vacates n others) is spelt = (goes_on code at n _ spelt).within
    by (fills k inside others) is spelt = (goes_on code at k _ spelt).within

-- a choice at no slot chooses nothing
pub nothing_more : (query : QueryView) (others : OpenChoice) → IsOpenChoice query [] others → others ≡ no_more
nothing_more query no_more is = refl
nothing_more query (undecided others) is = absurd is
nothing_more query (repeats n others) is = absurd is
nothing_more query (vacates n others) is = absurd is
nothing_more query (fills k inside others) is = absurd is

pub link_chosen : (query : QueryView) (atom most from to : ℕ) (code : List ℕ) (at : ℕ) → OpenBegins query (Link atom most from to ∷ []) (drop at code)
    → get_or code at 0 ≢ 0 → AreOpenChosen query (Link atom most from to ∷ []) (drop at code) (drop (at + 1) code) (Copies (get_or code at 0) ∷ []) true
unfolding open_pieces
link_chosen query atom most from to code at begins some = by begins.choice begins.made begins.spelt
  where
    by : (choice : OpenChoice) → IsOpenChoice query (Link atom most from to ∷ []) choice → open_spelling choice ++ begins.rest ≡ drop at code
        → AreOpenChosen query (Link atom most from to ∷ []) (drop at code) (drop (at + 1) code) (Copies (get_or code at 0) ∷ []) true
    by no_more is spelt = absurd is
    by (undecided others) is spelt = absurd (some (goes_on code at 0 (open_spelling others ++ begins.rest) spelt).number_is)
    by (repeats n others) is spelt =
        let on = goes_on code at n (open_spelling others ++ begins.rest) spelt in
        let last = nothing_more query others is.2 in
        record {
          choice = repeats n others;
          made = is;
          spelt = ap (λ s. n ∷ (open_spelling others ++ s)) (on.rest_is ∙ ap (λ o. open_spelling o ++ begins.rest) last) ∙ spelt;
          are = ap (λ m. Copies m ∷ []) on.number_is ∙ ap (λ o. Copies n ∷ open_pieces query [] o) (sym last);
          ends = ap (opens_one_ended query []) (sym last);
        }
    by (vacates n others) is spelt = absurd is
    by (fills k inside others) is spelt = absurd is

-- ---- a slot that is left open

pub undecided_chosen : (query : QueryView) (slot : Slot) (code : List ℕ) (at : ℕ) → OpenBegins query (slot ∷ []) (drop at code) → get_or code at 0 ≡ 0
    → AreOpenChosen query (slot ∷ []) (drop at code) (drop (at + 1) code) (Nothing ∷ []) (is_one_ended slot)
unfolding open_pieces
undecided_chosen query slot code at begins none =
    let there = slot_there query slot code at begins in
    record {
      choice = undecided no_more;
      made = tt;
      spelt = ap (λ (n : ℕ). n ∷ drop (at + 1) code) (sym none) ∙ sym (drop_more code at 0 there);
      are = refl;
      ends = and_true (is_one_ended slot);
    }

-- ---- a site

module _ (query : QueryView) (atom : ℕ) (groups : List ℕ) (first second : ℕ) (code : List ℕ) (at : ℕ) (begins : OpenBegins query (Site atom groups first second ∷ []) (drop at code)) where
  -- it is left open
  pub vacant_chosen : length (members_at query (Site atom groups first second)) < get_or code at 0
      → AreOpenChosen query (Site atom groups first second ∷ []) (drop at code) (drop (at + 1) code) (left_open query (Site atom groups first second) ∷ []) true
  unfolding open_pieces
  vacant_chosen above = by begins.choice begins.made begins.spelt
    where
      by : (choice : OpenChoice) → IsOpenChoice query (Site atom groups first second ∷ []) choice → open_spelling choice ++ begins.rest ≡ drop at code
          → AreOpenChosen query (Site atom groups first second ∷ []) (drop at code) (drop (at + 1) code) (left_open query (Site atom groups first second) ∷ []) true
      by no_more is spelt = absurd is
      by (undecided others) is spelt = absurd (let on = goes_on code at 0 (open_spelling others ++ begins.rest) spelt in omega (arith, on.number_is, above))
      by (repeats n others) is spelt = absurd is
      by (vacates n others) is spelt =
          let on = goes_on code at n (open_spelling others ++ begins.rest) spelt in
          let last = nothing_more query others is.1 in
          record {
            choice = vacates n others;
            made = is;
            spelt = ap (λ s. n ∷ (open_spelling others ++ s)) (on.rest_is ∙ ap (λ o. open_spelling o ++ begins.rest) last) ∙ spelt;
            are = ap (λ o. left_open query (Site atom groups first second) ∷ open_pieces query [] o) (sym last);
            ends = ap (opens_one_ended query []) (sym last);
          }
      by (fills k inside others) is spelt = absurd (let on = goes_on code at k (open_spelling inside ++ open_spelling others ++ begins.rest) spelt in omega (arith, on.number_is, is.1))

  -- or filled, and the code goes on with a choice at the slots of the member
  pub member_begins : get_or code at 0 ≢ 0 → get_or code at 0 ≤ length (members_at query (Site atom groups first second))
      → (1 ≤ get_or code at 0) × OpenBegins query (slots_of query (member query (Site atom groups first second) (get_or code at 0))) (drop (at + 1) code)
  member_begins some within = by begins.choice begins.made begins.spelt
    where
      by : (choice : OpenChoice) → IsOpenChoice query (Site atom groups first second ∷ []) choice → open_spelling choice ++ begins.rest ≡ drop at code
          → (1 ≤ get_or code at 0) × OpenBegins query (slots_of query (member query (Site atom groups first second) (get_or code at 0))) (drop (at + 1) code)
      by no_more is spelt = absurd is
      by (undecided others) is spelt = absurd (some (goes_on code at 0 (open_spelling others ++ begins.rest) spelt).number_is)
      by (repeats n others) is spelt = absurd is
      by (vacates n others) is spelt = absurd (let on = goes_on code at n (open_spelling others ++ begins.rest) spelt in omega (arith, on.number_is, is.0))
      by (fills k inside others) is spelt =
          let on = goes_on code at k ((open_spelling inside ++ open_spelling others) ++ begins.rest) spelt in
          let number = on.number_is in (
            omega (arith, number, is.0),
            record {
              choice = inside;
              rest = open_spelling others ++ begins.rest;
              made = rw number is.2;
              spelt = sym (append_assoc (open_spelling inside) (open_spelling others) begins.rest) ∙ sym on.rest_is;
            },
          )

  pub member_chosen : get_or code at 0 ≢ 0 → get_or code at 0 ≤ length (members_at query (Site atom groups first second)) → (next : ℕ) (part : Fragment) (one_ended : Bool)
      → IsOpened query (member query (Site atom groups first second) (get_or code at 0)) (drop (at + 1) code) (drop next code) part one_ended
      → AreOpenChosen query (Site atom groups first second ∷ []) (drop at code) (drop next code) (Member part ∷ []) one_ended
  unfolding open_pieces open_expansion
  member_chosen some_number within next part one_ended is =
      let there = slot_there query (Site atom groups first second) code at begins in
      let some = (member_begins some_number within).0 in
      record {
        choice = fills (get_or code at 0) is.choice no_more;
        made = (some, within, is.made, tt);
        spelt = ap (λ s. get_or code at 0 ∷ (s ++ drop next code)) (append-nil (open_spelling is.choice)) ∙ ap (λ s. get_or code at 0 ∷ s) is.spelt ∙ sym (drop_more code at 0 there);
        are = ap (λ p. Member p ∷ []) is.is;
        ends = is.ends ∙ and_true _;
      }
