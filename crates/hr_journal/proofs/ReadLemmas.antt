-- One text has one list of children, whatever its media type says: all that the laws of the journal
-- need of reading.
use Rattle.std.proofs.Common.{◌≡◌, List}
use Rattle.hr_manifest.proofs.ReadingLaws.{reads_once}
use Rattle.hr_manifest.specs.Reading.{Reads}
use Rattle.hr_manifest.specs.declared.child.Child.{Child}
use Rattle.hr_base.specs.Bytes.{ByteList, Media}

pub one_reading : (media other : Media) (bytes : ByteList) (kids others : List Child)
    → Reads media bytes kids → Reads other bytes others → kids ≡ others
one_reading media other bytes kids others = reads_once media other bytes kids others
