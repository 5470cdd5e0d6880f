-- `words::words::Words::with_word` meets its contract. Assumes nothing.
use mathlib.Core.Path.{sym, ◌∙◌}
use Rattle.words.proofs.Sayings.{says-image, says-channel, says-size, says-link, says_nothing}
use Rattle.words.proofs.words.Words.with_word.Goals as goal

pub returns-then-begins : goal.returns-then-begins
returns-then-begins c =
    let a = c.args in
    c.with_image.ensures ∙ says-image a.self a.i a.word.now (sym c.begins.ensures ∙ c.if-begins.true)

pub returns-then-begins-2 : goal.returns-then-begins-2
returns-then-begins-2 c =
    let a = c.args in
    c.with_channel.ensures
    ∙ says-channel a.self a.i a.word.now
    (sym c.begins.ensures ∙ c.if-begins.false)
    (sym c.begins-2.ensures ∙ c.if-begins-2.true)

pub returns-then-begins-3 : goal.returns-then-begins-3
returns-then-begins-3 c =
    let a = c.args in
    c.with_size.ensures
    ∙ says-size a.self a.i a.word.now
    (sym c.begins.ensures ∙ c.if-begins.false)
    (sym c.begins-2.ensures ∙ c.if-begins-2.false)
    (sym c.begins-3.ensures ∙ c.if-begins-3.true)

pub returns-then-begins-4 : goal.returns-then-begins-4
returns-then-begins-4 c =
    let a = c.args in
    c.with_link.ensures
    ∙ says-link a.self a.i a.word.now
    (sym c.begins.ensures ∙ c.if-begins.false)
    (sym c.begins-2.ensures ∙ c.if-begins-2.false)
    (sym c.begins-3.ensures ∙ c.if-begins-3.false)
    (sym c.begins-4.ensures ∙ c.if-begins-4.true)

pub returns : goal.returns
returns c =
    let a = c.args in
    c.refused.ensures
    ∙ says_nothing a.self a.i a.word.now
    (sym c.begins.ensures ∙ c.if-begins.false)
    (sym c.begins-2.ensures ∙ c.if-begins-2.false)
    (sym c.begins-3.ensures ∙ c.if-begins-3.false)
    (sym c.begins-4.ensures ∙ c.if-begins-4.false)
