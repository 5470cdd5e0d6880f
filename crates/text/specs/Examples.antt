-- Numbers as they read. Assumes nothing.
use Rattle.std.specs.Prelude.{◌≡◌, None, Some}
use Rattle.text.specs.Ascii.{ascii}
use Rattle.text.specs.Decimals.{decimal}
use Rattle.text.specs.Numbers.{number_said}

pub record NumberExamples : Type 0 where
  pub nothing : decimal 0 ≡ ascii "0"
  pub most : decimal 65536 ≡ ascii "65536"
  -- docs/EXCHANGE.md: "digits only (1 to 5 of them, so `007` is 7)"
  pub zeros_in_front : number_said (ascii "007") ≡ Some 7
  pub no-digits : number_said (ascii "") ≡ None
  pub six-digits : number_said (ascii "000007") ≡ None
  pub a_letter : number_said (ascii "1o") ≡ None
