-- The command `match`, from what its parts answer.
--     lists_of_file         the list of keys as what the file comes to
--     matched, misses_both  the search as the command
use Rattle.std.proofs.Common.{◌≡◌, ℕ, ◌≤◌, List, Option, refl, sym, subst, ◌∙◌, arith}
use Rattle.std.specs.Prelude.{Result, Ok, Err, IfOk}
use Rattle.mk_outside.specs.Counts.{Rose}
use Rattle.mk_model.specs.Queries.{QueryView}
use Rattle.mk_found.specs.declared.effect.Found.{Found}
use Rattle.mk_found.specs.declared.effect.StepFail.{StepFail}
use Rattle.mk_found.specs.declared.effect.StepFail.TheVariants as fail
use Rattle.mk_library.specs.Limits.{file_bytes}
use Rattle.mk_found.specs.Files.{IsShort, IsThere, IsTurnOf, Look}
use Rattle.mk_effects.specs.Match.{IsMatch, IsSearchOfFile, IsTurnOfMatch, ListsKeys, Searches, TurnOfMolecules, TurnOfQuery}
use Rattle.mk_found.specs.MoleculeFiles.{GoesByMolecules}
use Rattle.mk_found.specs.QueryFiles.{IsQueryHeld}
use Rattle.mk_found.specs.Findings.{MissesAt, SeeksSo, effect_of}

-- the list of keys is what the molecules' file comes to
pub lists_of_file : {E : Type 0} (wanted : QueryView) (files : Option Look) (name bytes : List ℕ) (r : Result Found E) → IsShort files file_bytes name bytes
    → IfOk r (λ found. ListsKeys wanted bytes (effect_of found)) → IfOk r (λ found. IsSearchOfFile wanted files name (effect_of found))
lists_of_file wanted files name bytes (Ok found) read lists = GoesByMolecules bytes read lists
lists_of_file wanted files name bytes (Err e) read lists = tt

module _ (files : Option Look) (query molecules : List ℕ) where
  pub matched : (wanted : QueryView) (old mid new : ℕ) (r : Result Found StepFail) → IsQueryHeld files query wanted → mid ≡ old
      → SeeksSo (IsSearchOfFile wanted files molecules) (IsTurnOf molecules) mid new r → SeeksSo (IsMatch files query molecules) (IsTurnOfMatch files query molecules) old new r
  matched wanted old mid new (Ok found) held same sought = (Searches wanted held sought.0, sought.1 ∙ same)
  matched wanted old mid new (Err fail.Read) held same sought =
      (record { name = sought.0.name; reaches = TurnOfMolecules wanted held sought.0.reaches }, subst (λ (n : ℕ). Rose n new) same sought.1)
  matched wanted old mid new (Err fail.Store) held same sought = absurd sought
  matched wanted old mid new (Err fail.Memory) held same sought = sought ∙ same

  -- the query's turn alone
  pub misses_query : (a b : ℕ) → a ≤ b → (IsThere files query → b ≡ a) → MissesAt files (IsTurnOfMatch files query molecules) a b
  misses_query a b never_falls absent = record { never_falls = never_falls; absent = λ all. absent (all query (TurnOfQuery refl)) }

  -- and that of the molecules
  pub misses_both : (wanted : QueryView) (a b c : ℕ) → IsQueryHeld files query wanted → a ≤ b → (IsThere files query → b ≡ a) → MissesAt files (IsTurnOf molecules) b c
      → MissesAt files (IsTurnOfMatch files query molecules) a c
  misses_both wanted a b c held never_falls absent m = record {
    never_falls = omega (arith, never_falls, m.never_falls);
    absent = λ all.
        m.absent (λ name turn. subst (IsThere files) (sym turn) (all molecules (TurnOfMolecules wanted held refl))) ∙ absent (all query (TurnOfQuery refl));
  }
