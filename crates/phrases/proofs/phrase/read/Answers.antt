-- `phrases::phrase::read` meets its contract. Assumes nothing.
use Rattle.std.proofs.Common.{◌≡◌, ℕ, true, ltb, sym, ap, ◌∙◌}
use Rattle.phrases.specs.declared.phrase.Trouble.TheVariants.{Unknown}
use Rattle.phrases.specs.Table.{row_count}
use Rattle.phrases.specs.Names.{command_place}
use Rattle.phrases.specs.Phrases.{troubled, phrase_of, bytes_of}
use Rattle.phrases.proofs.Readings.{written_none, known_command, no_command}
use Rattle.phrases.proofs.phrase.read.Goals as goal

pub returns-in-Some : goal.returns-in-Some
unfolding phrase_of bytes_of
returns-in-Some c =
    let row = c.row_at-row in
    let k = known_command (command_place c.args.line.now) (sym c.place_of.ensures ∙ c.in-Some.is) in
    let known : ltb c.in-Some.command row_count ≡ true = ap (λ (n : ℕ). ltb n row_count) k.0 ∙ k.1 in
    record {
      value = simp (← k.0, known, ← row.ensures, ← c.behind.ensures, c.read_behind_name.ensures.value);
      bytes_after = simp (← k.0, known, ← row.ensures, ← c.behind.ensures, c.read_behind_name.ensures.bytes_after);
    }

pub returns-in-None : goal.returns-in-None
unfolding phrase_of bytes_of
returns-in-None c =
    let k = no_command c.args.line.now (sym c.place_of.ensures ∙ c.in-None.is) in
    record {
      value = c.troubled.ensures ∙ ap (λ (n : ℕ). troubled n Unknown) k.0 ∙ simp k.1;
      bytes_after = simp k.1 (written_none c.args.bytes.now);
    }
