-- The JSON values of canonical manifests (RFC 8259; the members of an object by their names, in the
-- order of their bytes).
use Rattle.std.specs.Prelude.{List, [], ◌∷◌, codes}
use Rattle.serde_json.specs.Data.{Data, number, string, array, object, Items, no_items, item, no_members, member, unsigned}
use Rattle.hr_digest.specs.Digest.{text_of_digest}
use Rattle.hr_manifest.specs.declared.child.Child.{Child}
use Rattle.hr_manifest.specs.declared.media.TheConstants.{OCI_IMAGE, OCI_INDEX}

-- The JSON value of the descriptor of a child.
abbrev pub descriptor_value : Child → Data
descriptor_value child =
    object (member (codes "digest") (string (text_of_digest child.digest))
    (member (codes "mediaType") (string child.media)
    (member (codes "size") (number (unsigned child.size)) no_members)))

-- The JSON values of the descriptors of children, in order.
abbrev pub descriptor_values : List Child → Items
descriptor_values [] = no_items
descriptor_values (child ∷ children) = item (descriptor_value child) (descriptor_values children)

-- The JSON value of the manifest of an image with this config and these layers.
abbrev pub image_value : Child → List Child → Data
image_value config layers =
    object (member (codes "config") (descriptor_value config)
    (member (codes "layers") (array (descriptor_values layers))
    (member (codes "mediaType") (string OCI_IMAGE.now)
    (member (codes "schemaVersion") (number (unsigned 2)) no_members))))

-- The JSON value of the index of these children.
abbrev pub index_value : List Child → Data
index_value children =
    object (member (codes "manifests") (array (descriptor_values children))
    (member (codes "mediaType") (string OCI_INDEX.now)
    (member (codes "schemaVersion") (number (unsigned 2)) no_members)))
