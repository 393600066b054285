mod OpenedFiles
mod PeekedFiles
