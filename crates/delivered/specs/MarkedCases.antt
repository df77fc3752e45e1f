-- Document 01, "Marked cases": all lines marked P, 1 to 9, as one list and one claim, of the delivered check and the delivered header rules.
use Rattle.std.specs.Prelude.{List, ◌++◌, map}
use Rattle.numbers.specs.Every.{Every}
use Rattle.exchange.specs.Cases as exchange
use Rattle.exchange.specs.Cases.{ExchangeCase, exchange_cases}
use Rattle.header_round_trips.specs.Cases as header
use Rattle.header_round_trips.specs.Cases.{HeaderCase, header_cases}
use Rattle.image.specs.Verdict.{check_of}

-- Lines 1 to 6 speak of exchanges, lines 7 to 9 of headers.
pub data MarkedCase : Type 0 where
  of_exchange : ExchangeCase → MarkedCase
  of_header : HeaderCase → MarkedCase

-- What a case says, of the delivered check.
abbrev pub MarkedCaseHolds : MarkedCase → Type 0
MarkedCaseHolds (of_exchange c) = exchange.ExchangeCaseHolds check_of c
MarkedCaseHolds (of_header c) = header.HeaderCaseHolds c

-- The one list.
abbrev pub marked_cases : List MarkedCase
marked_cases = map of_exchange exchange_cases ++ map of_header header_cases

-- The one claim over it.
abbrev pub MarkedCases : Type 0
MarkedCases = Every MarkedCaseHolds marked_cases
