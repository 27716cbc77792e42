-- Over told files a command without a budget comes to at most one effect, and so a run without budgets has at most one outcome.
--     one_effect       a further command is a further case here
--     one_run          a run has at most one outcome
use Rattle.std.proofs.Common.{◌≡◌, ℕ, List, [], ◌∷◌, None, Some, refl, sym, ap, subst, ◌∙◌}
use Rattle.std.specs.List.{AllByRecursion}
use Rattle.mk_outside.specs.declared.tables.Tables.{Tables}
use Rattle.mk_words.specs.declared.command.Command.TheVariants as variant
use Rattle.mk_session.specs.declared.status.Status.{Status}
use Rattle.mk_kept.specs.declared.stored_rows.RowKind.{RowKind}
use Rattle.mk_found.specs.Effects.{Answers, Effect, after_effect}
use Rattle.mk_session.specs.Run.{after_effects, status_behind, texts, Commands, Does, IsOneLine, NotUnderstood, OneLine, ScriptLong, BadStore, bad_store_text}
use Rattle.mk_found.specs.Files.{Look}
use Rattle.mk_laws.specs.Laws.{OneEffect, OneRun}
use Rattle.mk_session.specs.Orders.{Asked, HasNoBudget, Order, Orders, orders_asked}
use Rattle.mk_kept.specs.StoredRows.{AllRead}
use Rattle.mk_kept.proofs.ForCallers.{one_first_bad, reads_not_bad}
use Rattle.mk_library.specs.Edits.{Load}
use Rattle.mk_edits.specs.Loading.{loaded_text}
use Rattle.mk_laws.proofs.OneEditLemmas.{one_edited, one_replace}
use Rattle.mk_laws.proofs.OneKeepLemmas.{one_forget, one_keep}
use Rattle.mk_laws.proofs.OneListingLemmas.{one_enum, one_table_answer}
use Rattle.mk_laws.proofs.OneMatchLemmas.{HasLaws, one_match, one_remove, one_show}
use Rattle.mk_laws.proofs.OneSearchLemmas.{one_resume, one_search}

-- ---- all commands

pub one_effect : HasLaws → OneEffect
one_effect laws look t None a b free p q = p ∙ sym q
one_effect laws look t (Some (variant.Match query molecules)) a b free p q = one_match laws look query molecules a b p q
one_effect laws look t (Some (variant.Load file)) a b free p q = one_edited laws.sdfile laws.one_bad laws.fault laws.no_fault look t.records t.next_record file Load (loaded_text t.next_record) a b p q
one_effect laws look t (Some (variant.Replace number file)) a b free p q = one_replace laws.sdfile laws.one_bad laws.fault laws.no_fault look t.records t.next_record number file a b p q
one_effect laws look t (Some (variant.Remove number)) a b free p q = one_remove t.records number a b p q
one_effect laws look t (Some (variant.Query name file)) a b free p q = one_keep laws.queries look t.queries name file a b p q
one_effect laws look t (Some (variant.Forget name)) a b free p q = one_forget t.queries t.cursors name a b p q
one_effect laws look t (Some (variant.Search name limit None)) a b free p q = one_search t name limit laws.queries a b p q
one_effect laws look t (Some (variant.Search name limit (Some budget))) a b free p q = absurd cc
one_effect laws look t (Some (variant.Resume cursor limit None)) a b free p q = one_resume t cursor limit laws.queries a b p q
one_effect laws look t (Some (variant.Resume cursor limit (Some budget))) a b free p q = absurd cc
one_effect laws look t (Some (variant.Show number)) a b free p q = one_show t.records number a b p q
one_effect laws look t (Some (variant.Table name)) a b free p q = one_table_answer laws.queries t name a b p q
one_effect laws look t (Some (variant.Enum name limit from)) a b free p q = one_enum laws.queries t.queries name limit from a b p q
one_effect laws look t (Some variant.List) a b free p q = p ∙ sym q
one_effect laws look t (Some (variant.Drill start count)) a b free p q = p.whole ∙ ap (λ (line : List ℕ). Answers [] line) (laws.drills start count p.line q.line p.is q.is) ∙ sym q.whole

-- ---- runs

one_does : HasLaws → (look : Look) (t : Tables) (orders : List Order) (es fs : List Effect) → AllByRecursion HasNoBudget orders → Does (Some look) t orders es → Does (Some look) t orders fs
    → es ≡ fs
one_does laws look t [] [] [] free d e = refl
one_does laws look t [] [] (f ∷ fs) free d e = absurd e
one_does laws look t [] (x ∷ es) fs free d e = absurd d
one_does laws look t (o ∷ orders) [] fs free d e = absurd d
one_does laws look t (o ∷ orders) (x ∷ es) [] free d e = absurd e
one_does laws look t (o ∷ orders) (x ∷ es) (f ∷ fs) free d e =
    let same : x ≡ f = one_effect laws look t o x f free.0 d.0 e.0 in
    let rest : es ≡ fs = one_does laws look (after_effect x t) orders es fs free.1 d.1 (subst (λ (g : Effect). Does (Some look) (after_effect g t) orders fs) (sym same) e.1) in
    cc

-- a run that does no command has one line
one_line : (t : Tables) (asked : Asked) (a b : List ℕ) (ends ends' : Status) → IsOneLine t asked a ends → IsOneLine t asked b ends' → (a ≡ b) × (ends ≡ ends')
one_line t asked a b ends ends' (NotUnderstood e is s) (NotUnderstood e' is' s') = (is ∙ sym is', s ∙ sym s')
one_line t asked a b ends ends' (NotUnderstood e is s) (ScriptLong e' is' s') = let h = sym e ∙ e' in absurd cc
one_line t asked a b ends ends' (NotUnderstood e is s) (BadStore orders e' kind n bad is' s') = let h = sym e ∙ e' in absurd cc
one_line t asked a b ends ends' (ScriptLong e is s) (NotUnderstood e' is' s') = let h = sym e ∙ e' in absurd cc
one_line t asked a b ends ends' (ScriptLong e is s) (ScriptLong e' is' s') = (is ∙ sym is', s ∙ sym s')
one_line t asked a b ends ends' (ScriptLong e is s) (BadStore orders e' kind n bad is' s') = let h = sym e ∙ e' in absurd cc
one_line t asked a b ends ends' (BadStore orders e kind n bad is s) (NotUnderstood e' is' s') = let h = sym e ∙ e' in absurd cc
one_line t asked a b ends ends' (BadStore orders e kind n bad is s) (ScriptLong e' is' s') = let h = sym e ∙ e' in absurd cc
one_line t asked a b ends ends' (BadStore orders e kind n bad is s) (BadStore others e' kind' m bad' is' s') =
    let same = one_first_bad t kind kind' n m bad bad' in
    (is ∙ ap (λ (k : RowKind). bad_store_text k n) same.0 ∙ ap (λ (i : ℕ). bad_store_text kind' i) same.1 ∙ sym is', s ∙ sym s')

-- and does none
line_or_orders : (t : Tables) (asked : Asked) (orders : List Order) (line : List ℕ) (ends : Status) → asked ≡ Orders orders → AllRead t → IsOneLine t asked line ends → ⊥
line_or_orders t asked orders line ends is reads (NotUnderstood e a b) = let h = sym e ∙ is in cc
line_or_orders t asked orders line ends is reads (ScriptLong e a b) = let h = sym e ∙ is in cc
line_or_orders t asked orders line ends is reads (BadStore others e kind number bad a b) = reads_not_bad t kind number reads bad

pub one_run : HasLaws → OneRun
one_run laws look t asked a b left other ends ends' free (OneLine line is) (OneLine line' is') =
    let same = one_line t asked a b ends ends' line line' in
    (same.0, is ∙ sym is', same.1)
one_run laws look t asked a b left other ends ends' free (OneLine line is) (Commands orders e reads effects does adds leaves status) =
    absurd (line_or_orders t asked orders a ends e reads line)
one_run laws look t asked a b left other ends ends' free (Commands orders e reads effects does adds leaves status) (OneLine line is) =
    absurd (line_or_orders t asked orders b ends' e reads line)
one_run laws look t asked a b left other ends ends' free (Commands orders e reads effects does adds leaves status) (Commands others e' reads' effects' does' adds' leaves' status') =
    let h = sym e ∙ e' in
    let same : orders ≡ others = cc in
    let none : AllByRecursion HasNoBudget others = subst (λ (o : Asked). AllByRecursion HasNoBudget (orders_asked o)) e' free in
    let one : effects ≡ effects' = one_does laws look t others effects effects' none (subst (λ (os : List Order). Does (Some look) t os effects) same does) does' in
    (adds ∙ ap texts one ∙ sym adds', leaves ∙ ap (λ (es : List Effect). after_effects es t) one ∙ sym leaves', status ∙ ap status_behind one ∙ sym status')
