-- What a shared definition holds.
use Rattle.flow_codec.specs.declared.templates.Parts.{Parts}
use Rattle.flow_codec.specs.Layout.{Layout}

abbrev pub layout_of : Parts → Layout
layout_of parts = record { options = parts.options; scope = parts.scope; fields = parts.fields }
