-- `query` and `forget` come to one effect over told files.
--     one_keep, one_forget
use Rattle.std.proofs.Common.{◌≡◌, ℕ, ◌+◌, ◌≤◌, true, false, inl, inr, ◌⊎◌, List, [], ◌∷◌, length, sym, ap, subst, ◌∙◌, Some, arith}
use Rattle.std.specs.Prelude.{codes}
use Rattle.mk_model.specs.Queries.{QueryView}
use Rattle.mk_outside.specs.declared.tables.Change.TheVariants.{PutQuery}
use Rattle.mk_outside.specs.declared.tables.CursorRow.{CursorRow}
use Rattle.mk_outside.specs.declared.tables.QueryRow.{QueryRow}
use Rattle.mk_found.specs.declared.files.HeldQuery.TheVariants.{Query, Refused}
use Rattle.mk_found.specs.Effects.{Answers, Effect, Refuses}
use Rattle.mk_found.specs.Files.{Look}
use Rattle.mk_query_edits.specs.Queries.{FileIsRefused, Forgets, IsForget, IsFree, IsKeep, Keeps, NameIsHeld, NoQueryForgotten, QueriesAreFull, TextsAreFull, full_queries_text, kept_text, name_held_text}
use Rattle.mk_found.specs.Lines.{named_line}
use Rattle.mk_found.specs.QueryFiles.{IsQueryHeld, IsQueryRefused, query_bytes}
use Rattle.mk_kept.specs.Saved.{HasRoomFor, greatest_number, is_named, most_queries}
use Rattle.mk_laws.proofs.OneEditLemmas.{one_reading}
use Rattle.mk_kept.proofs.ForCallers.{HasQueryLaws}
use Rattle.mk_laws.proofs.OneQueryFileLemmas.{one_query_held}

-- ---- query

module _ (queries : List QueryRow) (name : List ℕ) where
  -- what a text that holds a query comes to: there is no room, or it is kept
  abbrev IsEndOfText : List ℕ → Effect → Type 0
  IsEndOfText text effect =
      ((HasRoomFor queries (kept_text text) → ⊥) × (effect ≡ Refuses full_queries_text))
      ⊎ (HasRoomFor queries (kept_text text) × (effect ≡ Answers (PutQuery (greatest_number queries + 1) name (kept_text text) ∷ []) (named_line (codes "kept ") name)))

  one_end_of_text : (text : List ℕ) (a b : Effect) → IsEndOfText text a → IsEndOfText text b → a ≡ b
  one_end_of_text text a b (inl p) (inl q) = p.1 ∙ sym q.1
  one_end_of_text text a b (inl p) (inr q) = absurd (p.0 q.0)
  one_end_of_text text a b (inr p) (inl q) = absurd (q.0 p.0)
  one_end_of_text text a b (inr p) (inr q) = p.1 ∙ sym q.1

  -- what a file comes to whose turn has come
  data IsEndOfFile (look : Look) (file : List ℕ) (effect : Effect) : Type 0 where
    OfRefused : (line : List ℕ) → IsQueryRefused (Some look) file line → effect ≡ Refuses line → IsEndOfFile look file effect
    OfText : (query : QueryView) (held : IsQueryHeld (Some look) file query) → IsEndOfText held.bytes effect → IsEndOfFile look file effect

  one_end_of_file : HasQueryLaws → (look : Look) (file : List ℕ) (a b : Effect) → IsEndOfFile look file a → IsEndOfFile look file b → a ≡ b
  one_end_of_file laws look file a b (OfRefused line p e) (OfRefused other q f) =
      let same = one_query_held look file laws (Refused line) (Refused other) p q in
      let one : line ≡ other = cc in
      e ∙ ap Refuses one ∙ sym f
  one_end_of_file laws look file a b (OfRefused line p e) (OfText query held end) =
      let same = one_query_held look file laws (Refused line) (Query query) p held in absurd cc
  one_end_of_file laws look file a b (OfText query held end) (OfRefused line p e) =
      let same = one_query_held look file laws (Refused line) (Query query) p held in absurd cc
  one_end_of_file laws look file a b (OfText query held end) (OfText other held' end') =
      let one : held'.bytes ≡ held.bytes = one_reading look file query_bytes held'.bytes held.bytes held'.read held.read in
      one_end_of_text held.bytes a b end (subst (λ (text : List ℕ). IsEndOfText text b) one end')

  -- the name is held, or there are as many queries as there may be, or it goes by the file
  data IsEndOfKeep (look : Look) (file : List ℕ) (effect : Effect) : Type 0 where
    OfName : is_named name queries ≡ true → effect ≡ Refuses (name_held_text name) → IsEndOfKeep look file effect
    OfFull : is_named name queries ≡ false → most_queries ≤ length queries → effect ≡ Refuses full_queries_text → IsEndOfKeep look file effect
    OfFile : IsFree queries name → IsEndOfFile look file effect → IsEndOfKeep look file effect

  end_of_keep : (look : Look) (file : List ℕ) (effect : Effect) → IsKeep (Some look) queries name file effect → IsEndOfKeep look file effect
  end_of_keep look file effect (NameIsHeld held is) = OfName held is
  end_of_keep look file effect (QueriesAreFull new full is) = OfFull new full is
  end_of_keep look file effect (FileIsRefused free line refused is) = OfFile free (OfRefused line refused is)
  end_of_keep look file effect (TextsAreFull free query held none is) = OfFile free (OfText query held (inl (none, is)))
  end_of_keep look file effect (Keeps free query held room is) = OfFile free (OfText query held (inr (room, is)))

  one_end_of_keep : HasQueryLaws → (look : Look) (file : List ℕ) (a b : Effect) → IsEndOfKeep look file a → IsEndOfKeep look file b → a ≡ b
  one_end_of_keep laws look file a b (OfName p e) (OfName q f) = e ∙ sym f
  one_end_of_keep laws look file a b (OfName p e) (OfFull new full f) = let h = sym p ∙ new in absurd cc
  one_end_of_keep laws look file a b (OfName p e) (OfFile free end) = let h = sym p ∙ free.new in absurd cc
  one_end_of_keep laws look file a b (OfFull new full e) (OfName q f) = let h = sym q ∙ new in absurd cc
  one_end_of_keep laws look file a b (OfFull new full e) (OfFull new' full' f) = e ∙ sym f
  one_end_of_keep laws look file a b (OfFull new full e) (OfFile free end) = absurd (omega (arith, full, free.few))
  one_end_of_keep laws look file a b (OfFile free end) (OfName q f) = let h = sym q ∙ free.new in absurd cc
  one_end_of_keep laws look file a b (OfFile free end) (OfFull new full f) = absurd (omega (arith, full, free.few))
  one_end_of_keep laws look file a b (OfFile free end) (OfFile free' end') = one_end_of_file laws look file a b end end'

pub one_keep : HasQueryLaws → (look : Look) (queries : List QueryRow) (name file : List ℕ) (a b : Effect) → IsKeep (Some look) queries name file a → IsKeep (Some look) queries name file b → a ≡ b
one_keep laws look queries name file a b p q = one_end_of_keep queries name laws look file a b (end_of_keep queries name look file a p) (end_of_keep queries name look file b q)

-- ---- forget

pub one_forget : (queries : List QueryRow) (cursors : List CursorRow) (name : List ℕ) (a b : Effect) → IsForget queries cursors name a → IsForget queries cursors name b → a ≡ b
one_forget queries cursors name a b (NoQueryForgotten none is) (NoQueryForgotten none' is') = is ∙ sym is'
one_forget queries cursors name a b (NoQueryForgotten none is) (Forgets held is') = let h = sym none ∙ held in absurd cc
one_forget queries cursors name a b (Forgets held is) (NoQueryForgotten none is') = let h = sym none ∙ held in absurd cc
one_forget queries cursors name a b (Forgets held is) (Forgets held' is') = is ∙ sym is'
