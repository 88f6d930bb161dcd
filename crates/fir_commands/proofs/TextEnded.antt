-- From how the parts of a command that writes one text end to what the command does.
use Rattle.std.proofs.Common.{ℕ, ◌+◌, ◌<◌, List, length, Err, IfSome, inl, inr, refl, sym, subst}
use Rattle.fir_io.specs.declared.ports.FileFault.{FileFault}
use Rattle.fir_io.specs.declared.ports.FileFault.TheVariants as file
use Rattle.fir_io.specs.Ports.{FilesSeen, SinkSeen, Rose, AtLeast, Grew}
use Rattle.fir_io.specs.working.Ports.{ReadShows}
use Rattle.fir_cli.specs.declared.status.Status.{Status}
use Rattle.fir_cli.specs.declared.status.Status.TheVariants.{Done, Refused, Usage, Unread, Unwritten, NoMemory, BadTrace, BadVerilog, TooLong}
use Rattle.fir_cli.specs.Messages.{unread_line, too_long_line, memory_line}
use Rattle.fir_cli.specs.Outside.{Outside, outside, IsRead, code, limit}
use Rattle.fir_commands.specs.TextCommands.{Due, PutsText, TextMeaning}
use Rattle.fir_commands.specs.TextAnswers.{TextAnswers, TextComplete}
use Rattle.fir_cli.specs.working.Endings.{Said, Complained, Untaken}
use Rattle.fir_commands.specs.working.TextEndings.{TextPut}
use Rattle.trace_lines.proofs.Kept.{kept_same}
use Rattle.fir_cli.proofs.Told.{IsTooLong, not_short, read_is, not_too_much}

pub refused_said : (k : TextMeaning) (bytes line : List ℕ) (out err err' : SinkSeen) (s : Status) → k.refuses bytes line → Said line Refused err err' s → TextPut k bytes out out err err' s
refused_said k bytes line out err err' s why (inl p) = subst (TextPut k bytes out out err err') (sym p.0) (line, why, refl, p.1)
refused_said k bytes line out err err' s why (inr (inl p)) = subst (TextPut k bytes out out err err') (sym p.0) (inr (kept_same out, p.1, inr (line, why, p.2)))
refused_said k bytes line out err err' s why (inr (inr p)) = subst (TextPut k bytes out out err err') (sym p.0) (inl (kept_same out), inr p.1)

pub memory_said : (k : TextMeaning) (bytes : List ℕ) (out err err' : SinkSeen) (s : Status) → Said memory_line NoMemory err err' s → TextPut k bytes out out err err' s
memory_said k bytes out err err' s (inl p) = subst (TextPut k bytes out out err err') (sym p.0) (inl (kept_same out), inl p.1)
memory_said k bytes out err err' s (inr (inl p)) = subst (TextPut k bytes out out err err') (sym p.0) (inr (kept_same out, p.1, inl p.2))
memory_said k bytes out err err' s (inr (inr p)) = subst (TextPut k bytes out out err err') (sym p.0) (inl (kept_same out), inr p.1)

pub refused_told : (k : TextMeaning) (bytes line : List ℕ) (out err err' : SinkSeen) (s : Status) → k.refuses bytes line → Complained line Refused err err' s → TextPut k bytes out out err err' s
refused_told k bytes line out err err' s why (inl h) = refused_said k bytes line out err err' s why h
refused_told k bytes line out err err' s why (inr h) = memory_said k bytes out err err' s h

module _ (k : TextMeaning) (name : List ℕ) (files files' : FilesSeen) (out err err' : SinkSeen) where
  abbrev Ends : Status → Type 0
  Ends = PutsText k name (outside files out err) (outside files' out err')

  -- a due line that was put, or was not
  said : (due : Status) (line : List ℕ) (s : Status) → Due k name (outside files out err) (outside files' out err') due line → (Grew err err' line → Ends due) → Said line due err err' s → Ends s
  said due line s cause whole (inl p) = subst Ends (sym p.0) (whole p.1)
  said due line s cause whole (inr (inl p)) = subst Ends (sym p.0) (inr (line, p.1, p.2, (due, cause, kept_same out)))
  said due line s cause whole (inr (inr p)) = subst Ends (sym p.0) (inl (kept_same out), inr p.1)

  memory_ended : (s : Status) → Said memory_line NoMemory err err' s → Ends s
  memory_ended s h = said NoMemory memory_line s refl (λ g. (inl (kept_same out), inl g)) h

  unread_ended : (s : Status) → Rose files.faults files'.faults → Complained (unread_line name) Unread err err' s → Ends s
  unread_ended s rose (inl h) = said Unread (unread_line name) s (rose, refl) (λ g. (unread_line name, (rose, refl), refl, g)) h
  unread_ended s rose (inr h) = memory_ended s h

  too_long_ended : (s : Status) → AtLeast (limit + 1) files'.taken → IfSome (files.told name) (λ content. limit < length content) → Complained (too_long_line name) TooLong err err' s → Ends s
  too_long_ended s taken long (inl h) =
      said TooLong (too_long_line name) s (taken, long, refl) (λ g. (too_long_line name, (taken, long, refl), refl, g)) h
  too_long_ended s taken long (inr h) = memory_ended s h

  -- the file was not read, and it was said why
  pub untaken_ended : (fault : FileFault) (s : Status) → ReadShows limit name files files' (Err fault) → Untaken name fault err err' s → Ends s
  untaken_ended file.Failed s shows h = unread_ended s shows h
  untaken_ended file.TooLong s shows h = too_long_ended s shows.0 shows.1 h
  untaken_ended file.Memory s shows h = memory_ended s h

-- what was done with the bytes is what is done for the file
pub text_ended : (k : TextMeaning) (name : List ℕ) (files files' : FilesSeen) (out out' err err' : SinkSeen) (bytes : List ℕ) (s : Status) → IsRead name (outside files out err) bytes → TextPut k bytes out out' err err' s → PutsText k name (outside files out err) (outside files' out' err') s
text_ended k name files files' out out' err err' bytes Done read h = (bytes, h.0, read, h.1, h.2, h.3)
text_ended k name files files' out out' err err' bytes Refused read h = (h.0, (bytes, read, h.1), h.2, h.3)
text_ended k name files files' out out' err err' bytes Usage read h = absurd h
text_ended k name files files' out out' err err' bytes Unread read h = absurd h
text_ended k name files files' out out' err err' bytes TooLong read h = absurd h
text_ended k name files files' out out' err err' bytes BadTrace read h = absurd h
text_ended k name files files' out out' err err' bytes BadVerilog read h = absurd h
text_ended k name files files' out out' err err' bytes Unwritten read (inl h) =
    inl (record { read = bytes; written = h.0; is_read = read; writes = h.1; front = h.3 }, h.2, h.4)
text_ended k name files files' out out' err err' bytes Unwritten read (inr (kept, rose, inl front)) =
    inr (memory_line, rose, front, (NoMemory, refl, kept))
text_ended k name files files' out out' err err' bytes Unwritten read (inr (kept, rose, inr (line, why, front))) =
    inr (line, rose, front, (Refused, (bytes, read, why), kept))
text_ended k name files files' out out' err err' bytes NoMemory read (inl kept, e) = (inl kept, e)
text_ended k name files files' out out' err err' bytes NoMemory read (inr (text, writes, front), e) =
    (inr (record { read = bytes; written = text; is_read = read; writes = writes; front = front }), e)

module _ (k : TextMeaning) (name : List ℕ) (before : Outside) where
  -- a text that was written
  done_answers : (read : List ℕ) → IsRead name before read → k.takes read → TextAnswers k name before 0
  done_answers read is_read taken = record {
    too_long = λ much. absurd (not_too_much before name read is_read much);
    done = λ bytes tells takes. refl;
    refused = λ bytes tells none. absurd (none (subst k.takes (read_is before name bytes read tells.told is_read) taken));
  }

  -- bytes that were refused
  refused_answers : (read : List ℕ) → IsRead name before read → (k.takes read → ⊥) → TextAnswers k name before 1
  refused_answers read is_read not_taken = record {
    too_long = λ much. absurd (not_too_much before name read is_read much);
    done = λ bytes tells takes. absurd (not_taken (subst k.takes (sym (read_is before name bytes read tells.told is_read)) takes));
    refused = λ bytes tells none. refl;
  }

  -- a file that is too long
  too_long_answers : IsTooLong before name → TextAnswers k name before 8
  too_long_answers long = record {
    too_long = λ much. refl;
    done = λ bytes tells takes. absurd (not_short before name bytes long tells);
    refused = λ bytes tells none. absurd (not_short before name bytes long tells);
  }

-- what is written of bytes that are taken, and refused what is not, gives the status that the told content gives, where nothing failed and memory was there
module _ (k : TextMeaning) (taken : (bytes text : List ℕ) → k.writes bytes text → k.takes bytes)
    (not_taken : (bytes line : List ℕ) → k.refuses bytes line → k.takes bytes → ⊥) where
  pub text_complete : (name : List ℕ) (before after : Outside) (s : Status) → PutsText k name before after s → TextComplete k name before after (code s)
  text_complete name before after Done h not_memory none_failed = done_answers k name before h.0 h.2 (taken h.0 h.1 h.3)
  text_complete name before after Refused h not_memory none_failed = refused_answers k name before h.1.0 h.1.1 (not_taken h.1.0 h.0 h.1.2)
  text_complete name before after Usage h not_memory none_failed = absurd h.1
  text_complete name before after Unread h not_memory none_failed = absurd (none_failed.files h.1.0)
  text_complete name before after Unwritten (inl h) not_memory none_failed = absurd (none_failed.out h.1)
  text_complete name before after Unwritten (inr h) not_memory none_failed = absurd (none_failed.err h.1)
  text_complete name before after NoMemory h not_memory none_failed = absurd (not_memory refl)
  text_complete name before after TooLong h not_memory none_failed = too_long_answers k name before h.1.1
  text_complete name before after BadTrace h not_memory none_failed = absurd h.1
  text_complete name before after BadVerilog h not_memory none_failed = absurd h.1
