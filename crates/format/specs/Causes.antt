-- The numbers of the causes: the table of document 01, "When the engine says no" (1 to 15), and those that document 02's requests
-- [1], [3] and [7] add.
--     number_of c     the number of a cause
use Rattle.std.specs.Prelude.{ℕ}
use Rattle.format.specs.declared.cause.Cause.{Cause}
use Rattle.format.specs.declared.cause.Cause.TheVariants.{ShortImage, Version, Length, Count, Record, Field, BytesBehind, Source, Destination, AddedRecord}
use Rattle.format.specs.declared.cause.Cause.TheVariants.{AddedField, SectionFull, ShortBuffer, NoSuchRecord, BytesLeft, Rows, Answers, Row, Twin, AddedTwin}

abbrev pub number_of : Cause → ℕ
number_of ShortImage = 1
number_of Version = 2
number_of Length = 3
number_of Count = 4
number_of Record = 5
number_of Field = 6
number_of BytesBehind = 7
number_of Source = 8
number_of Destination = 9
number_of AddedRecord = 10
number_of AddedField = 11
number_of SectionFull = 12
number_of ShortBuffer = 13
number_of NoSuchRecord = 14
number_of BytesLeft = 15
number_of Rows = 16
number_of Answers = 17
number_of Row = 18
number_of Twin = 19
number_of AddedTwin = 20
