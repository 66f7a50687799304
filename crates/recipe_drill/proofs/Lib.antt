mod Drawing
mod Parted
mod Definitions
mod Printed
mod RecordRoom
mod FileRoom
mod ManifestRoom
