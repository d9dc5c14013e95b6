-- With which number a line that can't be read is told.
use Rattle.std.specs.Prelude.{◌≡◌, ℕ}
use Rattle.pd_lines.specs.declared.reader.LineFault.{LineFault}
use Rattle.pd_lines.specs.declared.reader.LineFault.TheVariants.{Source, TooLong, NotText, Unended}

-- the line that is refused has this number
abbrev pub IsNumbered : ℕ → LineFault → Type 0
IsNumbered number Source = Unit {0}
IsNumbered number (TooLong line) = line ≡ number
IsNumbered number (NotText line) = line ≡ number
IsNumbered number (Unended line) = line ≡ number
