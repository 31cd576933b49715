-- What contracts see of a manifest that was read. (Our own.)
use Rattle.std.specs.Prelude.{List}
use Rattle.hr_base.specs.Bytes.{ByteList, Media}
use Rattle.hr_manifest.specs.declared.child.Child.{Child}

-- A manifest that was read: its media type, its bytes and the children that it lists, in order.
pub record Parts : Type 0 where
  pub media : Media
  pub bytes : ByteList
  pub children : List Child
