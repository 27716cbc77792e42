-- One thing is made of a query's file that is told.
--     one_query_held
use Rattle.std.proofs.Common.{◌≡◌, ℕ, List, refl, sym, ap, subst, ◌∙◌, Some}
use Rattle.mk_found.specs.declared.files.HeldQuery.{HeldQuery}
use Rattle.mk_found.specs.declared.files.HeldQuery.TheVariants.{Query, Refused}
use Rattle.mk_kept.specs.declared.query_text.QueryText.{QueryText}
use Rattle.mk_kept.specs.declared.query_text.QueryText.TheVariants.{Compiled, Bad, V3000, Fails}
use Rattle.mk_found.specs.Answers.{bad_query_text, long_query_text, query_check_text, v3000_query_text}
use Rattle.mk_found.specs.Files.{IsLong, IsShort, Look}
use Rattle.mk_found.specs.QueryFiles.{BadQueryLine, IsQueryHeldBy, IsQueryRefused, IsTextRefused, QueryFailsCheck, QueryTextRefused, QueryTooLong, V3000QueryLine, query_bytes}
use Rattle.mk_kept.specs.QueryText.{IsTextSaid}
use Rattle.mk_laws.proofs.OneEditLemmas.{long_not_read, one_reading}
use Rattle.mk_kept.proofs.ForCallers.{HasQueryLaws, one_said}

-- ---- a file

-- what is made of a file of which this is said
abbrev pub held_as : QueryText → HeldQuery
held_as (Compiled query) = Query query
held_as (Bad k) = Refused (bad_query_text k)
held_as (V3000 k) = Refused (v3000_query_text k)
held_as (Fails check table item) = Refused (query_check_text check table item)

-- the file is too long, or something is said of its text
data IsMadeOf (look : Look) (name : List ℕ) (held : HeldQuery) : Type 0 where
  OfLong : IsLong (Some look) query_bytes name → held ≡ Refused long_query_text → IsMadeOf look name held
  OfText : (bytes : List ℕ) → IsShort (Some look) query_bytes name bytes → (said : QueryText) → IsTextSaid bytes said → held ≡ held_as said → IsMadeOf look name held

-- a line with which a text is refused is that of what is said of it
record IsLineOf (text line : List ℕ) : Type 0 where
  said : QueryText
  is : IsTextSaid text said
  line_is : Refused line ≡ held_as said

line_of : (text line : List ℕ) → IsTextRefused text line → IsLineOf text line
line_of text line (BadQueryLine k bad is) = record { said = Bad k; is = bad; line_is = ap Refused is }
line_of text line (V3000QueryLine k bad is) = record { said = V3000 k; is = bad; line_is = ap Refused is }
line_of text line (QueryFailsCheck fault first is) = record { said = Fails fault.check fault.table fault.item; is = first; line_is = ap Refused is }

module _ (look : Look) (name : List ℕ) where
  refused_of : (line : List ℕ) → IsQueryRefused (Some look) name line → IsMadeOf look name (Refused line)
  refused_of line (QueryTooLong long is) = OfLong long (ap Refused is)
  refused_of line (QueryTextRefused bytes read refused) = let of = line_of bytes line refused in OfText bytes read of.said of.is of.line_is

  made_of : (held : HeldQuery) → IsQueryHeldBy (Some look) name held → IsMadeOf look name held
  made_of (Query query) is = OfText is.bytes is.read (Compiled query) is.is refl
  made_of (Refused line) is = refused_of line is

  one_made_of : HasQueryLaws → (a b : HeldQuery) → IsMadeOf look name a → IsMadeOf look name b → a ≡ b
  one_made_of laws a b (OfLong long p) (OfLong long' q) = p ∙ sym q
  one_made_of laws a b (OfLong long p) (OfText bytes read said is q) = absurd (long_not_read look name query_bytes bytes long read)
  one_made_of laws a b (OfText bytes read said is p) (OfLong long q) = absurd (long_not_read look name query_bytes bytes long read)
  one_made_of laws a b (OfText bytes read said is p) (OfText others read' said' is' q) =
      let same : others ≡ bytes = one_reading look name query_bytes others bytes read' read in
      p ∙ ap held_as (one_said laws bytes said said' is (subst (λ (text : List ℕ). IsTextSaid text said') same is')) ∙ sym q

  -- so the file is held as one thing
  pub one_query_held : HasQueryLaws → (a b : HeldQuery) → IsQueryHeldBy (Some look) name a → IsQueryHeldBy (Some look) name b → a ≡ b
  one_query_held laws a b p q = one_made_of laws a b (made_of a p) (made_of b q)
