-- Over told files `match`, `show` and `remove` come to at most one effect.
--     one_match, one_show, one_remove
-- What is made of the query's file stands in OneQueryFileLemmas.
use Rattle.std.proofs.Common.{◌≡◌, ℕ, List, [], ◌∷◌, Some, length, nat_lt, sym, ap, subst, ◌∙◌}
use Rattle.mk_text.specs.Lines.{lines_of}
use Rattle.mk_text.specs.Rising.{AreFirst}
use Rattle.mk_text.proofs.ForCallers.{one_list_is_first}
use Rattle.mk_sdfile.specs.declared.raw_record.RawRecord.{RawRecord}
use Rattle.mk_sdfile.specs.Sdfile.{HasOneBadLine, HasOneValue}
use Rattle.mk_model.specs.Keys.{IsKey}
use Rattle.mk_model.specs.Molecules.{Molecule}
use Rattle.mk_model.specs.Queries.{QueryView}
use Rattle.mk_mol.specs.Filled.{IsFilled}
use Rattle.mk_mol.specs.Laws.{NoFaultWhereAllPass, OneFilledMolecule, OneFirstFault}
use Rattle.mk_drill.specs.Drill.{OneDrill}
use Rattle.mk_library.specs.declared.refusal.LoadRefusal.{LoadRefusal}
use Rattle.mk_library.specs.FirstRefusal.{FileDemands, HoldsMolecule, IsFirstFileRefusal}
use Rattle.mk_outside.specs.declared.tables.RecordRow.{RecordRow}
use Rattle.mk_found.specs.declared.files.HeldQuery.{HeldQuery}
use Rattle.mk_found.specs.declared.files.HeldQuery.TheVariants.{Query, Refused as RefusedQuery}
use Rattle.mk_found.specs.Effects.{Answers, Effect, Refuses}
use Rattle.mk_found.specs.Files.{Look}
use Rattle.mk_effects.specs.Hits.{IsHitsText, stop_of}
use Rattle.mk_effects.specs.Match.{IsMatch, IsRecord1, IsSearchOfFile, ListsKeys, QueryRefused, Searches}
use Rattle.mk_edits.specs.Records.{IsRemove, IsShow, NoRecordRemoved, NoRecordShown, Removes, Shows}
use Rattle.mk_found.specs.QueryFiles.{IsQueryHeldBy}
use Rattle.mk_effects.proofs.HitLinesLemmas.{one_hits_text}
use Rattle.mk_edits.proofs.LoadingLemmas.{text_is_held}
use Rattle.mk_laws.proofs.OneEditLemmas.{one_by_file, one_refusal}
use Rattle.mk_kept.proofs.ForCallers.{HasQueryLaws}
use Rattle.mk_laws.proofs.OneQueryFileLemmas.{one_query_held}

-- ---- the laws that are cited

-- what the crates below say of files, tables and queries
pub record HasLaws : Type 0 where
  pub queries : HasQueryLaws
  pub sdfile : HasOneValue
  pub one_bad : HasOneBadLine
  pub fault : OneFirstFault
  pub no_fault : NoFaultWhereAllPass
  pub filled : OneFilledMolecule
  pub drills : OneDrill

-- ---- the search

-- two records that are alone are one
one_alone : (a b : RawRecord) → a ∷ [] ≡ b ∷ [] → a ≡ b
one_alone a b same = cc

module _ (laws : HasLaws) (wanted : QueryView) where
  -- a file that is refused holds no molecule
  refused_holds_none : (bytes : List ℕ) (said : LoadRefusal) (effect : Effect) → IsFirstFileRefusal bytes said → ListsKeys wanted bytes effect → ⊥
  refused_holds_none bytes said effect first lists = first.fails (lists.held.met first.demand)

  -- a file holds one molecule
  one_held : (bytes : List ℕ) (a b : Molecule) → HoldsMolecule bytes a → HoldsMolecule bytes b → a ≡ b
  one_held bytes a b p q =
      let only : q.only ≡ p.only = one_alone q.only p.only (laws.sdfile (lines_of bytes) (q.only ∷ []) (p.only ∷ []) q.read p.read) in
      laws.filled p.only.table a b p.kept q.kept p.filled (subst (λ (raw : RawRecord). IsFilled raw.table b) only q.filled)

  -- and the first keys in it are one list, which has one text
  one_list : (bytes : List ℕ) (a b : Effect) → ListsKeys wanted bytes a → ListsKeys wanted bytes b → a ≡ b
  one_list bytes a b p q =
      let mol : q.mol ≡ p.mol = one_held bytes q.mol p.mol q.held p.held in
      let first : AreFirst 10000 (IsKey (IsRecord1 p.mol) wanted) q.keys = subst (λ (m : Molecule). AreFirst 10000 (IsKey (IsRecord1 m) wanted) q.keys) mol q.first in
      let keys : q.keys ≡ p.keys = one_list_is_first 10000 (IsKey (IsRecord1 p.mol) wanted) q.keys p.keys first p.first in
      let lines : IsHitsText wanted p.keys (stop_of (nat_lt (length p.keys) 10000) 0) q.text =
      subst (λ (ks : List (List ℕ)). IsHitsText wanted ks (stop_of (nat_lt (length ks) 10000) 0) q.text) keys q.lines in
      let text : p.text ≡ q.text = one_hits_text wanted p.keys (stop_of (nat_lt (length p.keys) 10000) 0) p.text q.text p.lines lines in
      p.answered ∙ ap (Answers []) text ∙ sym q.answered

  -- so a search has one effect
  one_search_of_file : (look : Look) (name : List ℕ) (a b : Effect) → IsSearchOfFile wanted (Some look) name a → IsSearchOfFile wanted (Some look) name b → a ≡ b
  one_search_of_file look name =
      one_by_file look name IsFirstFileRefusal (ListsKeys wanted)
      (λ bytes a b p q. one_refusal laws.sdfile laws.one_bad laws.fault laws.no_fault (FileDemands bytes) bytes a b p q) refused_holds_none one_list

-- ---- match

-- how it ends, by what is made of the query's file
abbrev IsEndOfMatch : Look → List ℕ → HeldQuery → Effect → Type 0
IsEndOfMatch look molecules (Query wanted) effect = IsSearchOfFile wanted (Some look) molecules effect
IsEndOfMatch look molecules (RefusedQuery line) effect = effect ≡ Refuses line

-- it is one end
one_end_of_match : HasLaws → (look : Look) (molecules : List ℕ) (held : HeldQuery) (a b : Effect) → IsEndOfMatch look molecules held a → IsEndOfMatch look molecules held b → a ≡ b
one_end_of_match laws look molecules (Query wanted) a b p q = one_search_of_file laws wanted look molecules a b p q
one_end_of_match laws look molecules (RefusedQuery line) a b p q = p ∙ sym q

-- it goes by what is made of the query's file
record HasMatched (look : Look) (query molecules : List ℕ) (effect : Effect) : Type 0 where
  held : HeldQuery
  of_file : IsQueryHeldBy (Some look) query held
  ends : IsEndOfMatch look molecules held effect

matched : (look : Look) (query molecules : List ℕ) (effect : Effect) → IsMatch (Some look) query molecules effect → HasMatched look query molecules effect
matched look query molecules effect (QueryRefused line refused ends) = record { held = RefusedQuery line; of_file = refused; ends = ends }
matched look query molecules effect (Searches wanted held search) = record { held = Query wanted; of_file = held; ends = search }

pub one_match : HasLaws → (look : Look) (query molecules : List ℕ) (a b : Effect) → IsMatch (Some look) query molecules a → IsMatch (Some look) query molecules b → a ≡ b
one_match laws look query molecules a b p q =
    let m = matched look query molecules a p in
    let n = matched look query molecules b q in
    let same : n.held ≡ m.held = one_query_held look query laws.queries n.held m.held n.of_file m.of_file in
    one_end_of_match laws look molecules m.held a b m.ends (subst (λ (held : HeldQuery). IsEndOfMatch look molecules held b) same n.ends)

-- ---- commands on the records

pub one_show : (records : List RecordRow) (n : ℕ) (a b : Effect) → IsShow records n a → IsShow records n b → a ≡ b
one_show records n a b (NoRecordShown none is) (NoRecordShown none' is') = is ∙ sym is'
one_show records n a b (NoRecordShown none is) (Shows text held is') = let h = sym none ∙ text_is_held n records text held in absurd cc
one_show records n a b (Shows text held is) (NoRecordShown none is') = let h = sym none ∙ text_is_held n records text held in absurd cc
one_show records n a b (Shows text held is) (Shows other held' is') = let h = sym held ∙ held' in let same : text ≡ other = cc in cc

pub one_remove : (records : List RecordRow) (n : ℕ) (a b : Effect) → IsRemove records n a → IsRemove records n b → a ≡ b
one_remove records n a b (NoRecordRemoved none is) (NoRecordRemoved none' is') = is ∙ sym is'
one_remove records n a b (NoRecordRemoved none is) (Removes held is') = let h = sym none ∙ held in absurd cc
one_remove records n a b (Removes held is) (NoRecordRemoved none is') = let h = sym none ∙ held in absurd cc
one_remove records n a b (Removes held is) (Removes held' is') = is ∙ sym is'
