-- Document 01, the listing program: the whole text that it prints.
use Rattle.std.specs.Prelude.{◌≡◌, ℕ, List, ◌++◌, length, drop}
use Rattle.io.specs.Counts.{IsPrefixLen}
use Rattle.numbers.specs.Answer.{Answer, gives, refused}
use Rattle.header_reader.specs.declared.Header.{Header}
use Rattle.header_reader.specs.Reading.{read_header}
use Rattle.listing_lines.specs.Lines.{fields, refusal}

-- What the program prints, and no more: the five lines, or the refusal's line.
abbrev pub listing : Answer Header → List ℕ
listing (gives v) = fields v
listing (refused n p) = refusal n p

-- The listing of the header that bytes begin with. The reader looks at the first 256; fewer are refusal 16 at 0.
abbrev pub listing_of : List ℕ → List ℕ
listing_of s = listing (read_header s)

-- What a call of the listing promises: every byte of the lent output afterwards, the text and behind it what stood there,
-- and as its count the text's length, which lies within the output.
pub record Lists (s before after : List ℕ) (count : ℕ) : Type 0 where
  pub bytes : after ≡ listing_of s ++ drop count before
  pub counted : count ≡ length (listing_of s)
  pub within : IsPrefixLen count after
