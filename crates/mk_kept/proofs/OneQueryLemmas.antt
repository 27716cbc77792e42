-- One thing is said of a text as a query file.
--     HasQueryLaws         what the crates below say of query files and of their checks
--     one_said             one thing is said of a text
--     one_query_of_text    so a text has one query, and none where it is refused
use Rattle.std.proofs.Common.{◌≡◌, ℕ, inl, inr, ◌⊎◌, List, refl, sym, ap, subst, ◌∙◌}
use Rattle.mk_text.specs.Lines.{lines_of}
use Rattle.mk_model.specs.Queries.{QueryView}
use Rattle.mk_rgfile.specs.declared.raw_query.RawQuery.{RawQuery}
use Rattle.mk_rgfile.specs.QueryFile.{HasBadLine, HasOneBadLine, HasOneQuery, IsBadQueryLine, IsQueryFile, IsV3000Line}
use Rattle.mk_query.specs.declared.compile_fault.FaultAt.{FaultAt}
use Rattle.mk_query.specs.Laws.{NoFaultWhereAllPass, OneFirstFault, OneQuery}
use Rattle.mk_kept.specs.declared.query_text.QueryText.{QueryText}
use Rattle.mk_kept.specs.declared.query_text.QueryText.TheVariants.{Compiled, Bad, V3000, Fails}
use Rattle.mk_kept.specs.QueryText.{IsQueryOfText, IsRawSaid, IsTextSaid}

-- what the crates below say of query files and of their checks
pub record HasQueryLaws : Type 0 where
  pub one_file : HasOneQuery
  pub bad : HasBadLine
  pub one_bad : HasOneBadLine
  pub one_query : OneQuery
  pub one_fault : OneFirstFault
  pub no_fault : NoFaultWhereAllPass

-- ---- a text

-- the tables of a query file are said to be one thing
one_raw_said : HasQueryLaws → (raw : RawQuery) (a b : QueryText) → IsRawSaid raw a → IsRawSaid raw b → a ≡ b
one_raw_said laws raw (Bad k) b p q = absurd p
one_raw_said laws raw (V3000 k) b p q = absurd p
one_raw_said laws raw (Compiled query) (Bad k) p q = absurd q
one_raw_said laws raw (Compiled query) (V3000 k) p q = absurd q
one_raw_said laws raw (Compiled query) (Compiled other) p q = ap Compiled (laws.one_query raw query other p.1 q.1)
one_raw_said laws raw (Compiled query) (Fails check table item) p q = absurd (laws.no_fault raw query (record { check = check; table = table; item = item }) p.1 p.0 q)
one_raw_said laws raw (Fails check table item) (Bad k) p q = absurd q
one_raw_said laws raw (Fails check table item) (V3000 k) p q = absurd q
one_raw_said laws raw (Fails check table item) (Compiled query) p q = absurd (laws.no_fault raw query (record { check = check; table = table; item = item }) q.1 q.0 p)
one_raw_said laws raw (Fails check table item) (Fails check' table' item') p q =
    ap (λ (fault : FaultAt). Fails fault.check fault.table fault.item)
    (laws.one_fault raw (record { check = check; table = table; item = item }) (record { check = check'; table = table'; item = item' }) p q)

-- what is said of a bad line
abbrev IsSaidOfBad : List (List ℕ) → ℕ → QueryText → Type 0
IsSaidOfBad lines k said = ((IsV3000Line lines k → ⊥) × (said ≡ Bad k)) ⊎ (IsV3000Line lines k × (said ≡ V3000 k))

one_said_of_bad : (lines : List (List ℕ)) (k : ℕ) (a b : QueryText) → IsSaidOfBad lines k a → IsSaidOfBad lines k b → a ≡ b
one_said_of_bad lines k a b (inl p) (inl q) = p.1 ∙ sym q.1
one_said_of_bad lines k a b (inl p) (inr q) = absurd (p.0 q.0)
one_said_of_bad lines k a b (inr p) (inl q) = absurd (q.0 p.0)
one_said_of_bad lines k a b (inr p) (inr q) = p.1 ∙ sym q.1

-- a text is a query file, or it has a bad line
data IsSaidOf (text : List ℕ) (said : QueryText) : Type 0 where
  OfFile : (raw : RawQuery) → IsQueryFile (lines_of text) raw → IsRawSaid raw said → IsSaidOf text said
  OfBad : (k : ℕ) → IsBadQueryLine (lines_of text) k → IsSaidOfBad (lines_of text) k said → IsSaidOf text said

said_of : (text : List ℕ) (said : QueryText) → IsTextSaid text said → IsSaidOf text said
said_of text (Compiled query) is = OfFile is.raw is.file (is.passes, is.means)
said_of text (Bad k) is = OfBad k is.bad (inl (is.unnamed, refl))
said_of text (V3000 k) is = OfBad k is.bad (inr (is.named, refl))
said_of text (Fails check table item) is = OfFile is.raw is.file is.first

one_of_kind : HasQueryLaws → (text : List ℕ) (a b : QueryText) → IsSaidOf text a → IsSaidOf text b → a ≡ b
one_of_kind laws text a b (OfFile raw file p) (OfFile other file' q) =
    one_raw_said laws raw a b p (subst (λ (x : RawQuery). IsRawSaid x b) (laws.one_file (lines_of text) other raw file' file) q)
one_of_kind laws text a b (OfFile raw file p) (OfBad k bad q) = absurd ((laws.bad (lines_of text)).0 (k, bad) raw file)
one_of_kind laws text a b (OfBad k bad p) (OfFile raw file q) = absurd ((laws.bad (lines_of text)).0 (k, bad) raw file)
one_of_kind laws text a b (OfBad k bad p) (OfBad j bad' q) =
    one_said_of_bad (lines_of text) k a b p (subst (λ (n : ℕ). IsSaidOfBad (lines_of text) n b) (laws.one_bad (lines_of text) j k bad' bad) q)

-- one thing is said of a text
pub one_said : HasQueryLaws → (text : List ℕ) (a b : QueryText) → IsTextSaid text a → IsTextSaid text b → a ≡ b
one_said laws text a b p q = one_of_kind laws text a b (said_of text a p) (said_of text b q)

-- so it has one query
pub one_query_of_text : HasQueryLaws → (text : List ℕ) (a b : QueryView) → IsQueryOfText text a → IsQueryOfText text b → a ≡ b
one_query_of_text laws text a b p q = let same = one_said laws text (Compiled a) (Compiled b) p q in cc
