-- BYTES and SPAN that can be read: docs/CONSOLE.md, "Output". Assumes nothing.
use Rattle.std.specs.Prelude.{◌≡◌, List, [], ◌∷◌, ℕ}
use Rattle.text.specs.Ascii.{ascii}
use Rattle.text.specs.Outputs.{as_one}
use Rattle.values.specs.Bytes.{bytes_texts}
use Rattle.values.specs.Spans.{span_texts}

abbrev memory : List ℕ
memory = 0x10 ∷ 0x20 ∷ 0x30 ∷ 0x40 ∷ 0x50 ∷ 0x60 ∷ []

-- the bytes at places 1 and 3 are others
abbrev later : List ℕ
later = 0x10 ∷ 0x21 ∷ 0x30 ∷ 0x4B ∷ 0x50 ∷ 0x60 ∷ []

pub record ValueExamples : Type 0 where
  pub no_bytes : as_one (bytes_texts []) ≡ ascii "-"
  pub some_bytes : as_one (bytes_texts (0x55 ∷ 0xAA ∷ 0x00 ∷ [])) ≡ ascii "55AA00"
  pub span : as_one (span_texts memory later 0) ≡ ascii "1:21304B"
  pub span-behind : as_one (span_texts memory later 2) ≡ ascii "3:4B"
  pub no_span : as_one (span_texts memory later 4) ≡ ascii "-"
