-- A run from its words to its end, from what its calls say.
--     ready_put, ready_unput, ready_no_memory     the first line
--     opened, unopened, bad_store                 the store
--     session_kind, words_no_memory, not_understood, held     the words
use Rattle.std.proofs.Common.{◌≡◌, ◌≢◌, ℕ, true, false, List, [], ◌∷◌, Option, Some, None, refl, ap, ◌∙◌, subst}
use Rattle.std.specs.Prelude.{IfSome}
use Rattle.mk_outside.specs.Counts.{Rose}
use Rattle.mk_outside.specs.Tables.{no_tables}
use Rattle.mk_outside.specs.declared.tables.Tables.{Tables}
use Rattle.mk_words.specs.declared.command.WordsKind.{WordsKind}
use Rattle.mk_words.specs.declared.command.WordsKind.TheVariants as words_kind
use Rattle.mk_words.specs.Commands.{kind_of_words}
use Rattle.mk_kept.specs.declared.stored_rows.RowKind.{RowKind}
use Rattle.mk_kept.specs.StoredRows.{AllRead}
use Rattle.mk_found.specs.Files.{Look}
use Rattle.mk_session.specs.declared.status.Status.{Status}
use Rattle.mk_session.specs.declared.status.Status.TheVariants as status
use Rattle.mk_session.specs.Opening.{IsBad, IsHeldByKeeper, IsLoaded}
use Rattle.mk_session.specs.Run.{bad_store_text, not_understood_text}
use Rattle.mk_talk.specs.Answers.{Held}
use Rattle.mk_talk.specs.declared.event.Event.{Event}
use Rattle.mk_talk.specs.declared.event.Event.TheVariants.{Put, PutPart}
use Rattle.mk_talk.specs.Events.{Grew}
use Rattle.mk_talk.specs.Frames.{ready_text}
use Rattle.mk_talk.specs.Speaks.{BadStore, FirstNoMemory, IsOneLine, IsUnput, NotUnderstood, Opened, OpenedSo, Ready, Speaks, Unloaded, Unready, WordsNoMemory}
use Rattle.mk_talk.specs.Speaking.{GoesOn, GoesReady, IsPutPart, ReadyNoMemory, ReadyPut, ReadySo, ReadyUnput, SaysOne, SpeaksOpen, is_session}
use Rattle.mk_talk.proofs.SpeakingLemmas.{grew_more, grew_none}

-- ---- the first line

pub ready_no_memory : (look : Option Look) (s : Held) (told : Option (List Event)) → GoesReady look s s told told status.Memory
ready_no_memory look s told = record { events = []; grew = grew_none told; goes = ReadyNoMemory refl refl refl }

pub ready_unput : (look : Option Look) (s : Held) (line : List ℕ) (old new : Option (List Event)) (ends : Status) → line ≡ ready_text s.tables → IsPutPart old new line ends
    → GoesReady look s s old new ends
ready_unput look s line old new ends is p = record {
  events = PutPart p.part ∷ [];
  grew = p.grew;
  goes = ReadyUnput p.part (subst (λ (x : List ℕ). IsUnput x p.part ends) is p.unput) refl refl;
}

pub ready_put : (look : Option Look) (s s' : Held) (line : List ℕ) (a b c : Option (List Event)) (ends : Status) → line ≡ ready_text s.tables → Grew a b (Put line ∷ [])
    → GoesOn look s s' b c ends → GoesReady look s s' a c ends
ready_put look s s' line a b c ends is put goes = record {
  events = Put line ∷ goes.events;
  grew = grew_more a b c (Put line ∷ []) goes.events put goes.grew;
  goes = ReadyPut goes.events (ap (λ (x : List ℕ). Put x ∷ goes.events) is) goes.talked;
}

-- ---- the store

kept_on : (told told1 told2 : Option Tables) (t left : Tables) → IfSome told (λ _. told1 ≡ Some t) → (told1 ≡ Some t → told2 ≡ Some left) → IfSome told (λ _. told2 ≡ Some left)
kept_on None told1 told2 t left stays kept = tt
kept_on (Some x) told1 told2 t left stays kept = kept stays

opened_so : (look : Option Look) (s s' : Held) (events : List Event) (ends : Status) → AllRead s.tables → ReadySo look s s' events ends → OpenedSo look s s' events ends
opened_so look s s' events ends reads (ReadyNoMemory none same is) = FirstNoMemory none same is
opened_so look s s' events ends reads (ReadyUnput part unput is same) = Unready reads part unput is same
opened_so look s s' events ends reads (ReadyPut behind is talked) = Ready reads behind is talked

pub opened : (sound sound1 : Type 0) (look : Option Look) (told told1 told2 : Option Tables) (a c : Option (List Event)) (t left : Tables) (f f' k k1 k' : ℕ) (ends : Status)
    → (sound → sound1) → IsLoaded sound1 told told1 t → AllRead t → k1 ≡ k → (sound → told1 ≡ Some t → told2 ≡ Some left)
    → GoesReady look (record { tables = t; files = f; keeper = k1 }) (record { tables = left; files = f'; keeper = k' }) a c ends
    → SpeaksOpen sound look told told2 a c f f' k k' ends
opened sound sound1 look told told1 told2 a c t left f f' k k1 k' ends sounds loaded reads same kept goes = record {
  t = t;
  left = left;
  events = goes.events;
  tables_told = λ s. loaded.is_told (sounds s);
  kept = λ s. kept_on told told1 told2 t left (loaded.stays (sounds s)) (kept s);
  grew = goes.grew;
  opened_so = opened_so look (record { tables = t; files = f; keeper = k }) (record { tables = left; files = f'; keeper = k' }) goes.events ends reads
      (subst (λ (n : ℕ). ReadySo look (record { tables = t; files = f; keeper = n }) (record { tables = left; files = f'; keeper = k' }) goes.events ends) same goes.goes);
}

pub unloaded : (sound : Type 0) (look : Option Look) (told told' : Option Tables) (a : Option (List Event)) (f k k' : ℕ) → IsHeldByKeeper sound told told' → Rose k k'
    → SpeaksOpen sound look told told' a a f f k k' status.Store
unloaded sound look told told' a f k k' held rose = record {
  t = held.t;
  left = held.t;
  events = [];
  tables_told = held.loaded.is_told;
  kept = held.loaded.stays;
  grew = grew_none a;
  opened_so = Unloaded refl refl refl rose refl;
}

held_with : (t : Tables) (f k k' : ℕ) → k' ≡ k → let new : Held = record { tables = t; files = f; keeper = k' } in let old : Held = record { tables = t; files = f; keeper = k } in new ≡ old
held_with t f k k' e = ap (λ (n : ℕ). record { tables = t; files = f; keeper = n }) e

pub open_no_memory : (sound : Type 0) (look : Option Look) (told told' : Option Tables) (a : Option (List Event)) (f k k' : ℕ) → IsHeldByKeeper sound told told' → k' ≡ k
    → SpeaksOpen sound look told told' a a f f k k' status.Memory
open_no_memory sound look told told' a f k k' held same = record {
  t = held.t;
  left = held.t;
  events = [];
  tables_told = held.loaded.is_told;
  kept = held.loaded.stays;
  grew = grew_none a;
  opened_so = FirstNoMemory refl (held_with held.t f k k' same) refl;
}

pub bad_row : (sound : Type 0) (told told' : Option Tables) (kind : RowKind) (number : ℕ) → IsBad sound told told' kind number → IsHeldByKeeper sound told told'
bad_row sound told told' kind number bad = record { t = bad.t; loaded = bad.loaded }

pub bad_store : (sound : Type 0) (look : Option Look) (told told' : Option Tables) (a c : Option (List Event)) (f k k' : ℕ) (kind : RowKind) (number : ℕ) (line : List ℕ) (ends : Status)
    → IsBad sound told told' kind number → k' ≡ k → line ≡ bad_store_text kind number → SaysOne a c line status.BadStore ends
    → SpeaksOpen sound look told told' a c f f k k' ends
bad_store sound look told told' a c f k k' kind number line ends bad same is says = record {
  t = bad.t;
  left = bad.t;
  events = says.events;
  tables_told = bad.loaded.is_told;
  kept = bad.loaded.stays;
  grew = says.grew;
  opened_so = BadStore kind number bad.bad (subst (λ (x : List ℕ). IsOneLine x status.BadStore says.events ends) is says.one) (held_with bad.t f k k' same);
}

-- ---- the words

pub session_kind : (kind : WordsKind) → true ≡ is_session kind → kind ≡ words_kind.Script
session_kind words_kind.Script is = refl
session_kind other is = absurd cc

pub other_kind : (kind : WordsKind) → false ≡ is_session kind → kind ≢ words_kind.Script
other_kind kind is e = let both : false ≡ true = is ∙ ap is_session e in absurd cc

pub untouched : (sound : Type 0) (told : Option Tables) → IsHeldByKeeper sound told told
untouched sound None = record { t = no_tables; loaded = record { is_told = λ _. tt; stays = λ _. tt } }
untouched sound (Some t) = record { t = t; loaded = record { is_told = λ _. refl; stays = λ _. refl } }

module _ (sound : Type 0) (words : List (List ℕ)) (look : Option Look) (told : Option Tables) where
  pub words_no_memory : (a : Option (List Event)) (f k : ℕ) → Speaks sound words look told told a a f f k k status.Memory
  words_no_memory a f k =
      let held = untouched sound told in
      record {
        t = held.t;
        left = held.t;
        events = [];
        tables_told = held.loaded.is_told;
        kept = held.loaded.stays;
        grew = grew_none a;
        spoke_so = WordsNoMemory refl refl refl;
      }

  pub not_understood : (a c : Option (List Event)) (f k : ℕ) (ends : Status) → kind_of_words words ≢ words_kind.Script
      → SaysOne a c not_understood_text status.Words ends → Speaks sound words look told told a c f f k k ends
  not_understood a c f k ends other says =
      let held = untouched sound told in
      record {
        t = held.t;
        left = held.t;
        events = says.events;
        tables_told = held.loaded.is_told;
        kept = held.loaded.stays;
        grew = says.grew;
        spoke_so = NotUnderstood other says.one refl;
      }

  pub held : (told' : Option Tables) (a c : Option (List Event)) (f f' k k' : ℕ) (ends : Status) → kind_of_words words ≡ words_kind.Script
      → SpeaksOpen sound look told told' a c f f' k k' ends → Speaks sound words look told told' a c f f' k k' ends
  held told' a c f f' k k' ends script opens = record {
    t = opens.t;
    left = opens.left;
    events = opens.events;
    tables_told = opens.tables_told;
    kept = opens.kept;
    grew = opens.grew;
    spoke_so = Opened script opens.opened_so;
  }
